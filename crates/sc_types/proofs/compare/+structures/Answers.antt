use Rattle.std.proofs.Common.{◌≡◌, ◌+◌, ◌-◌, Bool, true, false, List, take, drop, length, sym, ◌∙◌, ap}
use Rattle.std.specs.Prelude.{◌&&◌}
use Rattle.std.specs.Str.{bytes_eq}
use Rattle.sc_types.specs.declared.ctype.Member.{Member}
use Rattle.sc_types.specs.Compatibility.{Pairs, by_value, by_tag, alike, same_member, same_members}
use Rattle.sc_types.proofs.Compatibility.{members-length, split-members, first_fails, middle_fails, last_fails, middle_decides, not-true, not-false, reaches, settles-reaches, rest-is}
use Rattle.sc_types.proofs.compare.+structures.Goals as goal

pub inside-returns-then-ms-ns : goal.inside-returns-then-ms-ns
inside-returns-then-ms-ns t c = members-length (by_value c.args.left c.args.s.now c.args.t.now) c.args.ms.now c.args.ns.now c.if-ms-ns.true

pub inside-returns-then-ne : goal.inside-returns-then-ne
inside-returns-then-ne t c =
    let test = by_value c.args.left c.args.s.now c.args.t.now in
    let ms = c.args.ms.now in
    let ns = c.args.ns.now in
    let k = c.largest-place.result in
    let m = c.index-ms-place.result in
    let n = c.index-ns-place.result in
    let whole = split-members test ms ns k m n c.if-ms-ns.false c.largest-place.ensures c.index-ms-place.is c.index-ns-place.is in
    let other : bytes_eq m.name n.name ≡ false = not-true (bytes_eq m.name n.name) (sym c.if-ne.ensures) in
    middle_fails (same_members test (take k ms) (take k ns)) (same_member test m n) (same_members test (drop (k + 1) ms) (drop (k + 1) ns)) (same_members test ms ns) whole
    (ap (λ (b : Bool). b && test m.of n.of) other)

pub inside-returns-then-not-members : goal.inside-returns-then-not-members
inside-returns-then-not-members t c =
    let test = by_value c.args.left c.args.s.now c.args.t.now in
    let ms = c.args.ms.now in
    let ns = c.args.ns.now in
    let k = c.largest-place.result in
    let m = c.index-ms-place.result in
    let n = c.index-ns-place.result in
    let whole = split-members test ms ns k m n c.if-ms-ns.false c.largest-place.ensures c.index-ms-place.is c.index-ns-place.is in
    first_fails (same_members test (take k ms) (take k ns)) (same_member test m n) (same_members test (drop (k + 1) ms) (drop (k + 1) ns)) (same_members test ms ns) whole (sym c.if-not-members.ensures)

pub inside-returns-then-not-members-2 : goal.inside-returns-then-not-members-2
inside-returns-then-not-members-2 t c =
    let test = by_value c.args.left c.args.s.now c.args.t.now in
    let ms = c.args.ms.now in
    let ns = c.args.ns.now in
    let k = c.largest-place.result in
    let m = c.index-ms-place.result in
    let n = c.index-ns-place.result in
    let whole = split-members test ms ns k m n c.if-ms-ns.false c.largest-place.ensures c.index-ms-place.is c.index-ns-place.is in
    let back : same_members test (drop (k + 1) ms) (drop (k + 1) ns) ≡ false =
    sym (ap (λ (xs : List Member). same_members test xs (drop (k + 1) ns)) (rest-is ms (k + 1))) ∙ sym (ap (λ (xs : List Member). same_members test (take (length ms - (k + 1)) (drop (k + 1) ms)) xs) (rest-is ns (k + 1)))
    ∙ sym c.if-not-members-2.ensures in
    last_fails (same_members test (take k ms) (take k ns)) (same_member test m n) (same_members test (drop (k + 1) ms) (drop (k + 1) ns)) (same_members test ms ns) whole back

pub inside-returns : goal.inside-returns
inside-returns t c =
    let left = c.args.left in
    let s = c.args.s.now in
    let u = c.args.t.now in
    let test = by_value left s u in
    let ms = c.args.ms.now in
    let ns = c.args.ns.now in
    let k = c.largest-place.result in
    let m = c.index-ms-place.result in
    let n = c.index-ns-place.result in
    let whole = split-members test ms ns k m n c.if-ms-ns.false c.largest-place.ensures c.index-ms-place.is c.index-ns-place.is in
    let back : same_members test (drop (k + 1) ms) (drop (k + 1) ns) ≡ true =
    sym (ap (λ (xs : List Member). same_members test xs (drop (k + 1) ns)) (rest-is ms (k + 1))) ∙ sym (ap (λ (xs : List Member). same_members test (take (length ms - (k + 1)) (drop (k + 1) ms)) xs) (rest-is ns (k + 1)))
    ∙ sym c.if-not-members-2.ensures in
    let one = middle_decides (same_members test (take k ms) (take k ns)) (same_member test m n) (same_members test (drop (k + 1) ms) (drop (k + 1) ns)) (same_members test ms ns) whole (sym c.if-not-members.ensures) back in
    let named : bytes_eq m.name n.name ≡ true = not-false (bytes_eq m.name n.name) (sym c.if-ne.ensures) in
    reaches c.settled.result left s u (same_members test ms ns) (test m.of n.of) (one ∙ ap (λ (b : Bool). b && test m.of n.of) named)
    (settles-reaches c.settled.result left s u (λ (here : Pairs). alike (by_tag s u) here true m.of n.of) c.settled.ensures)

pub members-returns-then-ms-ns : goal.members-returns-then-ms-ns
members-returns-then-ms-ns t c = sym (members-length (by_value c.args.left c.args.s.now c.args.t.now) c.args.ms.now c.args.ns.now c.if-ms-ns.true)
