use Rattle.std.proofs.Common.{sym, ◌∙◌}
use Rattle.std.proofs.lemmas.Slice.Eq.{slice_eq-Decides}
use Rattle.reader.proofs.verb.Verb.is_named.Goals as goal
use Rattle.std.proofs.lemmas.Bool.Decides.{Decides-eqb}

pub returns : goal.returns
returns c =
    let d = slice_eq-Decides Decides-eqb _ _ _ c.eq.ensures in
    (λ t. d.0 t ∙ c.name.ensures, λ e. d.1 (e ∙ sym c.name.ensures))
