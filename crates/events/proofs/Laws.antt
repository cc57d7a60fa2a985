-- Laws of events in the two arrays: none, one, and one run of them after another.
use mathlib.Core.Path.{◌≡◌, refl, sym, ap, ◌∙◌}
use mathlib.Core.Bool.{Bool, true, false}
use mathlib.Core.List.{List, [], ◌∷◌, ◌++◌, map-append}
use Prim.Native.Nat.{ℕ, ◌+◌, ◌≤◌, ◌<◌}
use native.Mathlib.Omega.{arith}
use lib.ListN.{length, set, length-append, length-map}
use Rattle.le.specs.Le.{written}
use Rattle.le.proofs.Laws.{put_one, written_none, more}
use Rattle.events.specs.Events.{Event, event, events_if, kinds_of, values_of, Wrote}

length-kinds : (es : List Event) → length (kinds_of es) ≡ length es
unfolding kinds_of
length-kinds es = length-map es _

length-values : (es : List Event) → length (values_of es) ≡ length es
unfolding values_of
length-values es = length-map es _

kinds-append : (es fs : List Event) → kinds_of (es ++ fs) ≡ kinds_of es ++ kinds_of fs
unfolding kinds_of
kinds-append es fs = map-append _ es fs

values-append : (es fs : List Event) → values_of (es ++ fs) ≡ values_of es ++ values_of fs
unfolding values_of
values-append es fs = map-append _ es fs

pub wrote_none : (ks vs : List ℕ) (n : ℕ) → Wrote ks vs n ks vs n []
unfolding kinds_of values_of
wrote_none ks vs n = record { count = omega arith; kinds = written_none ks n; values = written_none vs n }

pub wrote_one : (ks vs : List ℕ) (n k v : ℕ) → n < length ks → n < length vs → Wrote ks vs n (set ks n k) (set vs n v) (n + 1) (event k v ∷ [])
unfolding kinds_of values_of
wrote_one ks vs n k v hk hv = record { count = refl; kinds = put_one ks n k hk; values = put_one vs n v hv }

module _ {ks vs ks' vs' ks'' vs'' : List ℕ} {n m r : ℕ} {es fs : List Event} where
  -- one run of events after another is one run
  pub wrote_then : n ≤ length ks → n ≤ length vs → Wrote ks vs n ks' vs' m es → Wrote ks' vs' m ks'' vs'' r fs → Wrote ks vs n ks'' vs'' r (es ++ fs)
  wrote_then hk hv a b = record {
    count = omega (arith, length-append es fs);
    kinds = more ks n hk (kinds_of es) (kinds_of fs) m (omega (arith, length-kinds es)) a.kinds b.kinds ∙ ap (written ks n) (sym (kinds-append es fs));
    values = more vs n hv (values_of es) (values_of fs) m (omega (arith, length-values es)) a.values b.values ∙ ap (written vs n) (sym (values-append es fs));
  }

-- an event that may be due is one at most
pub one_at_most : (due : Bool) (e : Event) → length (events_if due e) ≤ 1
one_at_most true e = omega arith
one_at_most false e = omega arith
