-- `is_standing`: workout, core and step have been asked one after the other.
use Prim.Native.Nat.{ℕ}
use mathlib.Core.Path.{sym, ap, ◌∙◌}
use Rattle.standing.specs.Standing.{standing_of, core_ok}
use Rattle.standing.proofs.Laws.{not-refused}
use Rattle.standing.proofs.is_standing.Goals as goal

pub returns : goal.returns
unfolding standing_of
returns c =
    simp (
      not-refused c.check.result (sym c.is_err.ensures.value ∙ c.if-is_err.false) c.check.ensures,
      ap (λ (n : ℕ). core_ok n c.args.player.core) (sym c.played_len.ensures) ∙ sym c.core_ok.ensures ∙ c.if-not-core_ok.false,
      c.step_is.ensures,
      c.unwrap_or-played.ensures,
      c.played_at.ensures,
      c.on_place.ensures,
    )
