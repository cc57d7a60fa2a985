-- The words of an answer from what the replay gave, n bytes being lent.
use mathlib.Core.Path.{◌≡◌, sym, ap, ◌∙◌}
use mathlib.Core.List.{List, [], ◌∷◌, ◌++◌}
use Prim.Native.Nat.{ℕ, ◌-◌, ◌≤◌, min}
use native.Mathlib.Omega.{arith}
use lib.ListN.{length, take, drop}
use lib.Seq.{length-take-le}
use Rattle.common.proofs.Matches.{past}
use Rattle.compare.specs.Input.{word_at}
use Rattle.console.specs.Console.{is_yes}
use Rattle.console.specs.declared.Replayed.{Replayed}
use Rattle.replay.specs.Replay.{replay_output}
use Rattle.compare_replay.specs.Replays.{replayed_in, places, output_in, word_in, word_of}
use Rattle.compare_replay.specs.declared.Given.{Given}

module _ (workout sheet : List ℕ) (g : Given) (n : ℕ) (e : n ≡ min g.lent 80) where
  pub lent-long : length (take n places) ≡ n
  lent-long = length-take-le n places within
    where
      within : n ≤ 80
      within = omega (arith, e)

  answered : (r : Replayed) → r ≡ replayed_in workout sheet (length (take n places)) → r ≡ replayed_in workout sheet (min g.lent 80)
  answered r a = a ∙ ap (λ (k : ℕ). replayed_in workout sheet k) (lent-long ∙ e)

  module _ (place : ℕ) where
    at_place : (k : ℕ) → place ≡ k → word_in workout sheet g (min g.lent 80) k ≡ word_of workout sheet g place
    unfolding word_of
    at_place k p = sym (ap (λ (i : ℕ). word_in workout sheet g (min g.lent 80) i) p)

    pub refusal-word : (r : Replayed) → r ≡ replayed_in workout sheet (length (take n places)) → place ≡ 0 → r.refusal ≡ word_of workout sheet g place
    refusal-word r a p = ap (λ (r : Replayed). r.refusal) (answered r a) ∙ at_place 0 p

    pub act-word : (r : Replayed) → r ≡ replayed_in workout sheet (length (take n places)) → place ≡ 1 → r.act ≡ word_of workout sheet g place
    act-word r a p = ap (λ (r : Replayed). r.act) (answered r a) ∙ at_place 1 p

    pub output-word : (out : List ℕ)
        → out ≡ replay_output workout sheet g.journal g.id g.start (is_yes g.dated) (take n places)
        → 2 ≤ place
        → word_at (out ++ drop n places) (place - 2) ≡ word_of workout sheet g place
    unfolding word_of
    output-word out o h =
        let most = min g.lent 80 in
        ap (λ (out : List ℕ). word_at (out ++ drop n places) (place - 2)) o
        ∙ ap (λ (k : ℕ). word_at (output_in workout sheet g k) (place - 2)) e
        ∙ past ((replayed_in workout sheet most).refusal ∷ (replayed_in workout sheet most).act ∷ []) place (word_at (output_in workout sheet g most) (place - 2)) h
