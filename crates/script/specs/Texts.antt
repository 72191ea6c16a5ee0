-- The line that a script's outcome is printed as.
use Rattle.std.specs.Prelude.{ℕ, List, ◌++◌, Ok, Err, Result, codes, decimal, encode_utf8}
use Rattle.denial.specs.Numbers.{letter_of, number_of}
use Rattle.script.specs.Faults.{script_answer, script_denial, script_layer, script_line}
use Rattle.script.specs.declared.fault.ScriptFault.{ScriptFault}
use Rattle.script.specs.declared.outcome.LineOutcome.{LineOutcome}

-- a denial: the line's number, the denial's number, the layer's letter, and the answer
abbrev pub fault_text : ScriptFault → List ℕ
fault_text f =
    decimal (script_line f)
    ++ (codes " " ++ (decimal (number_of (script_denial f))
    ++ (codes " " ++ (encode_utf8 (letter_of (script_layer f))
    ++ (codes " " ++ decimal (script_answer f))))))

-- an answer at a line, or a denial
abbrev pub answer_text : ℕ → Result ℕ ScriptFault → List ℕ
answer_text n (Ok x) = decimal n ++ (codes " 0 - " ++ decimal x)
answer_text n (Err f) = fault_text f

-- what a line comes to
abbrev pub outcome_text : LineOutcome → List ℕ
outcome_text o = answer_text o.line o.outcome
