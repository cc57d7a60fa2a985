-- `read_name`: each return is what the reading gives after the bytes handed out so far.
use mathlib.Core.Path.{sym, ◌∙◌}
use native.Mathlib.Omega.{arith}
use lib.ListN.{length-drop}
use Rattle.cursor.proofs.Laws.{byte-given, taken-given, name-none, name-long, name-short, name-bad, name-read}
use Rattle.cursor.proofs.read_name.Goals as goal

pub returns-in_default : goal.returns-in_default
returns-in_default c = let a = c.args in name-none a.bytes.now a.cursor.at (sym c.byte.ensures ∙ c.in_default.is)

pub returns-then-len-gt20 : goal.returns-then-len-gt20
returns-then-len-gt20 c = let a = c.args in
    let s = a.bytes.now in
    let at = a.cursor.at in
    let len = c.in-Some.len in
    let after = c.in-Some.after in
    let first = byte-given s at len after (sym c.byte.ensures ∙ c.in-Some.is) in
    name-long s at len after first c.if-len-gt20.true

pub returns-in_default-take : goal.returns-in_default-take
returns-in_default-take c = let a = c.args in
    let s = a.bytes.now in
    let at = a.cursor.at in
    let len = c.in-Some.len in
    let after = c.in-Some.after in
    let first = byte-given s at len after (sym c.byte.ensures ∙ c.in-Some.is) in
    name-short s at len after first c.if-len-gt20.false (sym c.take.ensures ∙ c.in_default-take.is)

pub all_allowed-requires : goal.all_allowed-requires
all_allowed-requires c = let a = c.args in
    let s = a.bytes.now in
    let len = c.in-Some.len in
    let after = c.in-Some.after in
    let first = byte-given s a.cursor.at len after (sym c.byte.ensures ∙ c.in-Some.is) in
    let text = taken-given s after.at len c.in-Some-take.from c.in-Some-take.next (sym c.take.ensures ∙ c.in-Some-take.is) in
    omega (arith, first.within, text.within, text.place, length-drop after.at s)

pub returns-then-not-all_allowed : goal.returns-then-not-all_allowed
returns-then-not-all_allowed c = let a = c.args in
    let s = a.bytes.now in
    let at = a.cursor.at in
    let len = c.in-Some.len in
    let after = c.in-Some.after in
    let first = byte-given s at len after (sym c.byte.ensures ∙ c.in-Some.is) in
    let text = taken-given s after.at len c.in-Some-take.from c.in-Some-take.next (sym c.take.ensures ∙ c.in-Some-take.is) in
    name-bad s at len after first c.if-len-gt20.false c.in-Some-take.from c.in-Some-take.next text (sym c.all_allowed.ensures ∙ c.if-not-all_allowed.true)

pub copied-text-requires : goal.copied-text-requires
copied-text-requires c = let a = c.args in
    let s = a.bytes.now in
    let len = c.in-Some.len in
    let after = c.in-Some.after in
    let first = byte-given s a.cursor.at len after (sym c.byte.ensures ∙ c.in-Some.is) in
    let text = taken-given s after.at len c.in-Some-take.from c.in-Some-take.next (sym c.take.ensures ∙ c.in-Some-take.is) in
    omega (arith, first.within, text.within, text.place, length-drop after.at s)

pub returns : goal.returns
returns c = let a = c.args in
    let s = a.bytes.now in
    let at = a.cursor.at in
    let len = c.in-Some.len in
    let after = c.in-Some.after in
    let first = byte-given s at len after (sym c.byte.ensures ∙ c.in-Some.is) in
    let text = taken-given s after.at len c.in-Some-take.from c.in-Some-take.next (sym c.take.ensures ∙ c.in-Some-take.is) in
    name-read s at len after first c.if-len-gt20.false c.in-Some-take.from c.in-Some-take.next text c.copied-text.result c.copied-text.ensures (sym c.all_allowed.ensures ∙ c.if-not-all_allowed.false)
