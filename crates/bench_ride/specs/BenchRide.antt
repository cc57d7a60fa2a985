-- Document 01, 'Bench sheet': "A step of 10 s at 100 to 200 W, profile 200 and 160, read 150 W, ride 10,000" from files to record and
-- line, and a ride that is refused. Written by tests/oracle/bench_ride.rs from examples/first and examples/refused: how the
-- Rust's player rides, and the record's bytes by document 02's g. Compared by tests/oracle/run. The definitions are held against these,
-- since the Rust is outside the proof.
use Rattle.std.specs.Prelude.{◌≡◌, List, [], ◌∷◌, ◌++◌, ℕ, replicate}
use Rattle.replay.specs.Replay.{ridden_of, replay_answer, replay_output}
use Rattle.console.specs.declared.Replayed.{Replayed}
use Rattle.console.specs.Console.{replayed_of, is_yes}
use Rattle.line.specs.Line.{line_of}

-- examples/first/workout.bin
abbrev pub file : List ℕ
file =
    (86 ∷ 87 ∷ 1 ∷ 0 ∷ 5 ∷ 70 ∷ 73 ∷ 82 ∷ 83 ∷ 84 ∷ [])
    ++ ((1 ∷ 0 ∷ 1 ∷ 0 ∷ 10 ∷ 0 ∷ 0 ∷ 0 ∷ 2 ∷ 100 ∷ [])
    ++ ((0 ∷ 200 ∷ 0 ∷ 0 ∷ 0 ∷ 0 ∷ 0 ∷ 135 ∷ 150 ∷ 233 ∷ [])
    ++ ((218 ∷ []))))

-- examples/first/ride.bin
abbrev pub sheet : List ℕ
sheet =
    (3 ∷ 0 ∷ 0 ∷ 1 ∷ 2 ∷ 200 ∷ 0 ∷ 160 ∷ 0 ∷ 0 ∷ [])
    ++ ((0 ∷ 0 ∷ 0 ∷ 150 ∷ 0 ∷ 0 ∷ 0 ∷ 0 ∷ 0 ∷ 1 ∷ [])
    ++ ((0 ∷ 16 ∷ 39 ∷ 0 ∷ 0 ∷ 0 ∷ 0 ∷ 0 ∷ 0 ∷ [])))

-- the record, of which the Rust reads every field that it knows
abbrev pub stored : List ℕ
stored =
    (86 ∷ 87 ∷ 75 ∷ 79 ∷ 2 ∷ 70 ∷ 105 ∷ 3 ∷ 7 ∷ 0 ∷ [])
    ++ ((0 ∷ 0 ∷ 0 ∷ 104 ∷ 229 ∷ 207 ∷ 139 ∷ 1 ∷ 0 ∷ 0 ∷ [])
    ++ ((5 ∷ 70 ∷ 73 ∷ 82 ∷ 83 ∷ 84 ∷ 0 ∷ 0 ∷ 0 ∷ 0 ∷ [])
    ++ ((0 ∷ 0 ∷ 0 ∷ 0 ∷ 0 ∷ 0 ∷ 0 ∷ 0 ∷ 0 ∷ 0 ∷ [])
    ++ ((0 ∷ 0 ∷ 1 ∷ 0 ∷ 1 ∷ 0 ∷ 0 ∷ 0 ∷ 16 ∷ 39 ∷ [])
    ++ ((0 ∷ 0 ∷ 16 ∷ 39 ∷ 0 ∷ 0 ∷ 0 ∷ 0 ∷ 0 ∷ 0 ∷ [])
    ++ ((0 ∷ 0 ∷ 0 ∷ 0 ∷ 0 ∷ 0 ∷ 0 ∷ 0 ∷ 0 ∷ 0 ∷ [])
    ++ ((125 ∷ 187 ∷ 180 ∷ 7 ∷ []))))))))

-- `done 1 of 1 skipped 0 targeted 10000 in 10000 under 0 over 0 finished yes ftp none`
abbrev pub line : List ℕ
line =
    (100 ∷ 111 ∷ 110 ∷ 101 ∷ 32 ∷ 49 ∷ 32 ∷ 111 ∷ 102 ∷ 32 ∷ [])
    ++ ((49 ∷ 32 ∷ 115 ∷ 107 ∷ 105 ∷ 112 ∷ 112 ∷ 101 ∷ 100 ∷ 32 ∷ [])
    ++ ((48 ∷ 32 ∷ 116 ∷ 97 ∷ 114 ∷ 103 ∷ 101 ∷ 116 ∷ 101 ∷ 100 ∷ [])
    ++ ((32 ∷ 49 ∷ 48 ∷ 48 ∷ 48 ∷ 48 ∷ 32 ∷ 105 ∷ 110 ∷ 32 ∷ [])
    ++ ((49 ∷ 48 ∷ 48 ∷ 48 ∷ 48 ∷ 32 ∷ 117 ∷ 110 ∷ 100 ∷ 101 ∷ [])
    ++ ((114 ∷ 32 ∷ 48 ∷ 32 ∷ 111 ∷ 118 ∷ 101 ∷ 114 ∷ 32 ∷ 48 ∷ [])
    ++ ((32 ∷ 102 ∷ 105 ∷ 110 ∷ 105 ∷ 115 ∷ 104 ∷ 101 ∷ 100 ∷ 32 ∷ [])
    ++ ((121 ∷ 101 ∷ 115 ∷ 32 ∷ 102 ∷ 116 ∷ 112 ∷ 32 ∷ 110 ∷ 111 ∷ [])
    ++ ((110 ∷ 101 ∷ 10 ∷ [])))))))))

-- examples/refused/workout.bin
abbrev pub refused_file : List ℕ
refused_file =
    (86 ∷ 87 ∷ 1 ∷ 0 ∷ 8 ∷ 76 ∷ 79 ∷ 78 ∷ 71 ∷ 32 ∷ [])
    ++ ((68 ∷ 65 ∷ 89 ∷ 1 ∷ 0 ∷ 1 ∷ 0 ∷ 16 ∷ 14 ∷ 0 ∷ [])
    ++ ((0 ∷ 1 ∷ 60 ∷ 0 ∷ 75 ∷ 0 ∷ 0 ∷ 0 ∷ 0 ∷ 0 ∷ [])
    ++ ((225 ∷ 169 ∷ 99 ∷ 128 ∷ []))))

-- examples/refused/ride.bin
abbrev pub refused_sheet : List ℕ
refused_sheet =
    (4 ∷ 0 ∷ 0 ∷ 1 ∷ 2 ∷ 2 ∷ 240 ∷ 0 ∷ 160 ∷ 0 ∷ [])
    ++ ((0 ∷ 0 ∷ 0 ∷ 0 ∷ 165 ∷ 0 ∷ 131 ∷ 0 ∷ 0 ∷ 0 ∷ [])
    ++ ((3 ∷ 0 ∷ 250 ∷ 0 ∷ 0 ∷ 0 ∷ 208 ∷ 7 ∷ 0 ∷ 0 ∷ [])
    ++ ((1 ∷ 92 ∷ 38 ∷ 5 ∷ 0 ∷ 0 ∷ 0 ∷ 0 ∷ []))))

-- `refused 12 act 3`
abbrev pub refused_line : List ℕ
refused_line =
    (114 ∷ 101 ∷ 102 ∷ 117 ∷ 115 ∷ 101 ∷ 100 ∷ 32 ∷ 49 ∷ 50 ∷ [])
    ++ ((32 ∷ 97 ∷ 99 ∷ 116 ∷ 32 ∷ 51 ∷ 10 ∷ []))

-- The C call, lent the 74 bytes of a record, all of them 0: its answer, and the bytes after it. Journal `i`, id 7, a start, dated.
abbrev pub answered : List ℕ → List ℕ → Replayed
answered file sheet = replayed_of (replay_answer file sheet 74)

abbrev pub left : List ℕ → List ℕ → List ℕ
left file sheet = replay_output file sheet 105 7 1700000000000 (is_yes 1) (replicate 74 0)

-- The program's line.
abbrev pub printed : List ℕ → List ℕ → List ℕ
printed file sheet = line_of (ridden_of file sheet 74)

pub record BenchRide : Type 0 where
  pub accepted : answered file sheet ≡ record { refusal = 0; act = 4294967295 }
  pub record_is : left file sheet ≡ stored
  pub line_is : printed file sheet ≡ line
  pub refused : answered refused_file refused_sheet ≡ record { refusal = 12; act = 3 }
  pub stays : left refused_file refused_sheet ≡ replicate 74 0
  pub refused_line_is : printed refused_file refused_sheet ≡ refused_line
