-- What a script's fault is: its denial, layer, line and answer.
use Rattle.std.specs.Prelude.{ℕ}
use Rattle.denial.specs.declared.Denial.{Denial}
use Rattle.denial.specs.declared.Denial.TheVariants as D
use Rattle.denial.specs.declared.Layer.{Layer}
use Rattle.denial.specs.declared.Layer.TheVariants as L
use Rattle.machine.specs.Faults.{machine_denial, machine_layer}
use Rattle.reader.specs.declared.script.ReadError.{ReadError}
use Rattle.reader.specs.declared.script.ReadError.TheVariants as E
use Rattle.script.specs.declared.fault.RunError.{RunError}
use Rattle.script.specs.declared.fault.RunError.TheVariants.{Denied, Memory}
use Rattle.script.specs.declared.fault.ScriptFault.{ScriptFault}
use Rattle.script.specs.declared.fault.ScriptFault.TheVariants.{Text, Call}

-- the reader's denial is TEXT; the machine's fault is held whole
abbrev pub script_denial : ScriptFault → Denial
script_denial (Text p) = D.Text
script_denial (Call f) = machine_denial f.fault

abbrev pub script_layer : ScriptFault → Layer
script_layer (Text p) = L.Reader
script_layer (Call f) = machine_layer f.fault

-- the line of a fault
abbrev pub script_line : ScriptFault → ℕ
script_line (Text p) = p.line
script_line (Call f) = f.line

-- the word on TEXT, else 0
abbrev pub script_answer : ScriptFault → ℕ
script_answer (Text p) = p.word
script_answer (Call f) = 0

-- a script that is too long is TEXT at line 0, word 0
abbrev pub unread : ReadError → RunError
unread E.TooLong = Denied (Text (record { line = 0; word = 0 }))
unread (E.Memory e) = Memory e
