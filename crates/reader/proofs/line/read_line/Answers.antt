use Rattle.std.proofs.Common.{◌≡◌, ℕ, ◌+◌, List, ◌∷◌, ◌++◌, length, take, Ok, Err, refl, ap, ◌∙◌, arith, rules}
use Rattle.std.proofs.lemmas.Result.{err_from_is_err_and}
use borrow.Author.Tests.{tests}
use Rattle.reader.specs.declared.verb.Verb.{Verb}
use Rattle.reader.specs.Calls.{name_of, operand_texts, kinds_of}
use Rattle.reader.proofs.Once.{reads_once}
use Rattle.reader.proofs.Operands.{operand_read}
use Rattle.reader.proofs.Splits.{word_taken, no_words, bytes_taken, some_left, none_left, first_word, first_bytes}
use Rattle.reader.proofs.Stopping.{breaks_at, no_verb, wrong_word, too_many, missing, whole, again}
use Rattle.reader.proofs.line.read_line.Goals as goal

-- the words so far, and those to come
abbrev so_far : Verb → ℕ → List ℕ → List (List ℕ) → List (List ℕ)
so_far v i ns ws = name_of v ∷ (operand_texts (take i (kinds_of v)) (take i ns) ++ ws)

pub returns-in_err-verb : goal.returns-in_err-verb
returns-in_err-verb c =
    let line = c.args.line.now in
    let p = err_from_is_err_and c.from_residual-in_err-verb.result c.from_residual-in_err-verb.ensures.1 in
    let known = c.in_err-verb.ensures in
    let first = first_word _ _ _ _ c.in_ok-text.text line c.split-words.ensures.rest c.split-words.ensures.done (λ x b q k. search (rules, tests)) c.next.ensures.steps c.in_ok-text.ensures.ok_part in
    record {
      law = breaks_at line _ 1 _ p.0 c.of_verb-place.result p.1 (p.2 ∙ known.0) c.of_verb-place.ensures.line c.of_verb-place.ensures.word (no_verb line _ _ first known.1);
      once = reads_once;
    }

pub loop-i-init : goal.loop-i-init
loop-i-init c =
    let line = c.args.line.now in
    let first = first_word _ _ _ _ c.in_ok-text.text line c.split-words.ensures.rest c.split-words.ensures.done (λ x b q k. search (rules, tests)) c.next.ensures.steps c.in_ok-text.ensures.ok_part in
    let bytes = first_bytes _ _ _ _ c.in_ok-text.text line c.split-words.ensures.rest c.split-words.ensures.done c.next.ensures.steps c.in_ok-text.ensures.ok_part in
    record { words = cc (first, c.in_ok-verb.ensures); fit = search rules; six = search rules; ends = bytes }

pub returns-in_err-text-2 : goal.returns-in_err-text-2
returns-in_err-text-2 c =
    let line = c.args.line.now in
    let v = c.in_ok-verb.verb in
    let i = c.loop-i.i in
    let ns = c.loop-i.operands in
    let p = err_from_is_err_and c.from_residual-in_err-text-2.result c.from_residual-in_err-text-2.ensures.1 in
    let words = c.loop-i.invariant.words ∙ ap (so_far v i ns) (no_words _ _ _ _ c.next-in-loop-i.ensures.steps c.in_err-text-2.ensures.ok_part) in
    record {
      law = breaks_at line _ (i + 2) _ p.0 c.of_operand-place.result p.1 (p.2 ∙ search rules) c.of_operand-place.ensures.line c.of_operand-place.ensures.word (missing line v i (take i ns) words c.loop-i.invariant.fit (search rules));
      once = reads_once;
    }

pub returns-in_err-operands : goal.returns-in_err-operands
returns-in_err-operands c =
    let line = c.args.line.now in
    let v = c.in_ok-verb.verb in
    let i = c.loop-i.i in
    let ns = c.loop-i.operands in
    let text = c.in_ok-text-2.text in
    let p = err_from_is_err_and c.from_residual-in_err-operands.result c.from_residual-in_err-operands.ensures.1 in
    let read = operand_read c.operand.result _ text.now c.of_operand-place.result (Err c.in_err-operands.field-0.0) c.operand.ensures.kind c.operand.ensures.text c.operand.ensures.place c.in_err-operands.ensures in
    let words = c.loop-i.invariant.words ∙ ap (so_far v i ns) (word_taken _ _ _ _ text (λ x b q k. search (rules, tests)) c.next-in-loop-i.ensures.steps c.in_ok-text-2.ensures.ok_part) in
    record {
      law = breaks_at line _ (i + 2) _ p.0 c.of_operand-place.result p.1 (p.2 ∙ read.0) c.of_operand-place.ensures.line c.of_operand-place.ensures.word
          (wrong_word line v i (take i ns) text.now _ _ words c.loop-i.invariant.fit (search rules) (search rules) read.1);
      once = reads_once;
    }

pub loop-i-preserved : goal.loop-i-preserved
loop-i-preserved c =
    let line = c.args.line.now in
    let v = c.in_ok-verb.verb in
    let i = c.loop-i.i in
    let ns = c.loop-i.operands in
    let text = c.in_ok-text-2.text in
    let x = c.in_ok-operands.field-0 in
    let read = operand_read c.operand.result _ text.now c.of_operand-place.result (Ok x) c.operand.ensures.kind c.operand.ensures.text c.operand.ensures.place c.in_ok-operands.ensures in
    let words = c.loop-i.invariant.words ∙ ap (so_far v i ns) (word_taken _ _ _ _ text (λ x b q k. search (rules, tests)) c.next-in-loop-i.ensures.steps c.in_ok-text-2.ensures.ok_part) in
    let a = again line v i ns text.now _ _ x words c.loop-i.invariant.fit (search rules) (search rules) (search rules) read in
    let bytes = bytes_taken _ _ _ _ text c.next-in-loop-i.ensures.steps c.in_ok-text-2.ensures.ok_part in
    record { words = a.0; fit = a.1; six = search rules; ends = omega (arith, bytes, c.loop-i.invariant.ends) }

pub returns-then-goes_on : goal.returns-then-goes_on
returns-then-goes_on c =
    let line = c.args.line.now in
    let v = c.in_ok-verb.verb in
    let i = c.loop-i.i in
    let ns = c.loop-i.operands in
    let e : i ≡ length (kinds_of v) = search rules in
    let more = some_left c.loop-i.words (grind (arith, c.loop-i.invariant.ends)) in
    let words = c.loop-i.invariant.words ∙ ap (so_far v i ns) more.2 in
    let word : c.of_operand.result.word ≡ i + 2 = search rules in
    record {
      law = breaks_at line _ (i + 2) _ c.of_operand.result c.of_operand.result refl refl c.of_operand.ensures.line word (too_many line v i (take i ns) more.0 more.1 words c.loop-i.invariant.fit e);
      once = reads_once;
    }

pub returns : goal.returns
returns c =
    let line = c.args.line.now in
    let v = c.in_ok-verb.verb in
    let i = c.loop-i.i in
    let ns = c.loop-i.operands in
    let words = c.loop-i.invariant.words ∙ ap (so_far v i ns) (none_left c.loop-i.words (grind (arith, c.loop-i.invariant.ends))) in
    let k : length (kinds_of v) ≡ i = search rules in
    record {
      law = whole line v i (take i ns) c.call.result words c.loop-i.invariant.fit (omega arith) c.call.ensures.verb (c.call.ensures.operands ∙ ap (λ m. take m ns) k);
      once = reads_once;
    }
