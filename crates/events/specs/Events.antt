-- Events, and how they stand in the two lent arrays.
use Rattle.std.specs.Prelude.{◌≡◌, Bool, cond, List, [], ◌∷◌, map, ℕ, ◌+◌, length}
use Rattle.le.specs.Le.{written}

-- "kinds (0 countdown, 1 started, 2 finished, 3 FTP) and 16-bit values (seconds, position, 0, watts)"
pub record Event : Type 0 where
  pub kind : ℕ
  pub value : ℕ

abbrev pub event : ℕ → ℕ → Event
event kind value = record { kind = kind; value = value }

abbrev pub countdown : ℕ → Event
countdown secs = event 0 secs

abbrev pub started : ℕ → Event
started position = event 1 position

abbrev pub finished : Event
finished = event 2 0

abbrev pub ftp : ℕ → Event
ftp watts = event 3 watts

abbrev pub events_if : Bool → Event → List Event
events_if due e = cond due (e ∷ []) []

unfoldable pub kinds_of : List Event → List ℕ
kinds_of es = map (λ (e : Event). e.kind) es

unfoldable pub values_of : List Event → List ℕ
values_of es = map (λ (e : Event). e.value) es

-- "Events are two lent arrays .. filled from place 0; later places stay." The arrays ks and vs after some events, the first at
-- place n: what stands in them, and the place after the last event.
pub record Wrote (ks vs : List ℕ) (n : ℕ) (ks' vs' : List ℕ) (after : ℕ) (es : List Event) : Type 0 where
  pub count : after ≡ n + length es
  pub kinds : ks' ≡ written ks n (kinds_of es)
  pub values : vs' ≡ written vs n (values_of es)
