-- A block's objects are born in its slots, and die: the frame stays a frame.
use Rattle.std.proofs.Common.{◌≡◌, ◌≢◌, inl, inr, ℕ, zero, suc, ◌+◌, ◌-◌, ◌%◌, ◌<◌, ◌≤◌, ◌⊎◌, Bool, true, false, List, [], ◌∷◌, ◌++◌, length, set, Some, refl, sym, ap, subst, ◌∙◌, arith, append_assoc}
use Rattle.std.specs.Option.{IsSome}
use Rattle.std.specs.Prelude.{slice_get, nat_le, if◌then◌else◌, option_map}
use Rattle.std.proofs.lemmas.List.{length-append, append-nil}
use Rattle.std.proofs.lemmas.Bool.Decides.{nat_tests}
use Rattle.sc_program.specs.declared.frame.Slot.{Slot}
use Rattle.sc_objects.specs.declared.objects.Obj.{Obj}
use Rattle.sc_objects.specs.Numbered.{IsClear, Apart, object_of, born, ended}
use Rattle.sc_objects.proofs.Lists.{slice_get-front, slice_get-last, slice_get-push, slice_get-set_same}
use Rattle.sc_objects.proofs.Births.{object-born, object-within, object_of-at, born-object, born-new, ended-is, live-ended, ended-live}
use Rattle.sc_mem.specs.Flat.{Flat, place, with_birth}
use Rattle.sc_mem.specs.Safe.{Store}
use Rattle.sc_mem_store.proofs.Cells.{birth-other}
use Rattle.sc_mem_store.proofs.Lists.{get-other}
use Rattle.std.proofs.lemmas.Bool.{cases_eq}
use Rattle.std.proofs.lemmas.Option.{slice_get_within}
use Rattle.sc_meaning.specs.Beside.{born_in, died_in}
use Rattle.sc_core.specs.declared.module.Auto.{Auto}
use Rattle.sc_meaning.specs.World.{World, Born, Item, Birth, Death, pass}
use Rattle.sc_meaning.specs.Outcomes.{Outcome, Done, Over, BirthLimit, and_then}
use Rattle.sc_meaning.specs.Statements.{auto_kind, born_autos, all_dead}
use Rattle.sc_meaning.specs.declared.spot.Spot.TheVariants.{Slot as SlotSpot}
use Rattle.sc_compiled_frames.proofs.Living.{birth_in_stack, death}
use Rattle.sc_compiled_frames.specs.Frames.{Fits, Has, HasFrame, IsOpen, LeavesRest, Placed, entered, foot}
use Rattle.sc_compiled_frames.proofs.Near.{near_stack}

pub has_or : (o : Born) (bs : List Born) (x : Born) → Has o (bs ++ x ∷ []) → Has o bs ⊎ (o ≡ x)
has_or o [] x (inl e) = inr e
has_or o [] x (inr h) = absurd h
has_or o (b ∷ bs) x (inl e) = inl (inl e)
has_or o (b ∷ bs) x (inr h) = elim (has_or o bs x h) [ inl a ↦ inl (inr a) | inr e ↦ inr e ]

pub has_front : (o : Born) (bs : List Born) (x : Born) → Has o bs → Has o (bs ++ x ∷ [])
has_front o [] x h = absurd h
has_front o (b ∷ bs) x (inl e) = inl e
has_front o (b ∷ bs) x (inr h) = inr (has_front o bs x h)

has_last : (bs : List Born) (x : Born) → Has x (bs ++ x ∷ [])
has_last [] x = inl refl
has_last (b ∷ bs) x = inr (has_last bs x)

within : {X : Type 0} (xs : List X) (i : ℕ) (x : X) → slice_get xs i ≡ Some x → i < length xs
within [] i x e = absurd (cc (e))
within (y ∷ ys) zero x e = omega arith
within (y ∷ ys) (suc i) x e = let h = within ys i x e in omega (arith, h)

few_objects : (n k : ℕ) → nat_le 4000000000 n ≡ false → k ≡ n → k < 4294967294
few_objects n k e is = grind (arith, nat_tests, e, is)

-- ---- what is left

one_store : (x y : Store) → Some x ≡ Some y → x ≡ y
one_store x y e = cc (e)

rest_same : (bound top : ℕ) (x : Store) → LeavesRest bound top x x
rest_same bound top x = record { objects = λ id p e. (p, e, refl, refl); lives = λ id p le l. l; only = λ id p le l. l; bare = λ at le none. none; cells = λ at le. refl; stack = refl }

rest_then : (bound top : ℕ) (x y z : Store) → LeavesRest bound top x y → LeavesRest bound top y z → LeavesRest bound top x z
rest_then bound top x y z p q = record {
  objects = λ id o e. let a = p.objects id o e in let c = q.objects id a.0 a.1 in (c.0, c.1, c.2 ∙ a.2, c.3 ∙ a.3);
  lives = λ id o le l. q.lives id o le (p.lives id o le l);
  only = λ id o le l. p.only id o le (q.only id o le l);
  bare = λ at le none. q.bare at le (p.bare at le none);
  cells = λ at le. q.cells at le ∙ p.cells at le;
  stack = q.stack ∙ p.stack;
}

-- an object that dies stands where it stood, as do all others
ended_kept : (t : List Obj) (k : ℕ) (p q : Obj) (id : ℕ) → slice_get t k ≡ Some p → object_of t id ≡ Some q → (r : Obj) × (object_of (set t k (record p { live = false })) id ≡ Some r) × (r.base ≡ q.base) × (r.size ≡ q.size)
ended_kept t k p q zero e f = absurd (cc (f))
ended_kept t k p q (suc j) e f =
    elim (cases_eq j k) [
      | inl same ↦
          let one : Some p ≡ Some q = sym e ∙ (ap (slice_get t) (sym same) ∙ f) in
          let eq : p ≡ q = cc (one) in
          (record p { live = false }, ap (slice_get (set t k (record p { live = false }))) same ∙ slice_get-set_same t k (record p { live = false }) (slice_get_within t k p e), ap (λ (r : Obj). r.base) eq, ap (λ (r : Obj). r.size) eq)
      | inr n ↦ (q, get-other t k j (record p { live = false }) n ∙ f, refl, refl)
    ]

dead_used : (ids : List ℕ) (w : World) → (all_dead ids w).used ≡ w.used
dead_used [] w = refl
dead_used (id ∷ ids) w = dead_used ids w

module _ (slots : ℕ → List Slot) (cost : ℕ) (fits : Fits slots cost) (bs : List Born) (b : ℕ) (fresh : (o : Born) → Has o bs → o.block ≢ b) where
  -- one object more of the block that is being entered
  module _ (ids : List ℕ) (w : World) (slot : Slot) (constant : Bool) (mem : HasFrame slots cost (bs ++ entered b ids ∷ []) w) (here : slice_get (slots b) (length ids) ≡ Some slot) (few : length mem.holds.memory.flat.objects < 4294967294) where
    abbrev m : Flat
    m = mem.holds.memory.flat

    abbrev sp : ℕ
    sp = foot w

    abbrev base : ℕ
    base = sp + slot.offset

    abbrev o : Obj
    o = record { size = slot.size; kind = auto_kind constant; base = base; live = true }

    inside : slot.offset + slot.size < cost
    inside = fits.inside b (length ids) slot here

    from_open : (id : ℕ) (p : Obj) → IsOpen slots (bs ++ entered b ids ∷ []) sp id p → Apart p.base p.size base slot.size
    from_open id p q =
        let where_it_is : (q.slot.offset + q.slot.size < slot.offset) ⊎ (slot.offset + slot.size < q.slot.offset) = elim (has_or q.of bs (entered b ids) q.open_there) [
          | inl a ↦ fits.apart q.of.block b q.index (length ids) q.slot slot q.slotted here (inl (fresh q.of a))
          | inr e ↦
              let n = within q.of.ids q.index id q.numbered in
              let l : length q.of.ids ≡ length ids = ap (λ (x : Born). length x.ids) e in
              fits.apart q.of.block b q.index (length ids) q.slot slot q.slotted here (inr (λ i. omega (arith, n, l, i)))
        ] in
        let pb = q.base in
        let ps = q.size in
        elim where_it_is [ inl x ↦ inl (omega (arith, x, pb, ps)) | inr y ↦ inr (omega (arith, y, pb, ps)) ]

    clear : IsClear m.objects base slot.size
    clear id p live =
        let i = inside in
        elim (mem.only id p live) [
          | inl x ↦ inl (omega (arith, x))
          | inr y ↦ elim y [ inl z ↦ inr (omega (arith, z, i)) | inr q ↦ from_open id p q ]
        ]

    room : IsSome (place m base slot.size)
    room =
        let i = inside in
        let h = mem.holds.words.held.safe.heap in
        let t = mem.holds.words.held.safe.stack in
        let lo = mem.area in
        let hi = mem.high in
        let e = near_stack m.heap m.stack base slot.size h t (omega (arith, lo)) (omega (arith, i, hi, lo, t)) in
        rw e refl

    even : base % 4 ≡ 0
    even = let a = mem.aligned in let c = fits.even b (length ids) slot here in omega (arith, a, c)

    abbrev more : List ℕ
    more = ids ++ (length m.objects + 1) ∷ []

    still_open : (id : ℕ) (p : Obj) → IsOpen slots (bs ++ entered b ids ∷ []) sp id p → IsOpen slots (bs ++ entered b more ∷ []) sp id p
    still_open id p q = elim (has_or q.of bs (entered b ids) q.open_there) [
      | inl a ↦ record { of = q.of; open_there = has_front q.of bs (entered b more) a; index = q.index; slot = q.slot; numbered = q.numbered; slotted = q.slotted; base = q.base; size = q.size }
      | inr e ↦ record {
        of = entered b more;
        open_there = has_last bs (entered b more);
        index = q.index;
        slot = q.slot;
        numbered = front ids (length m.objects + 1) q.index id (subst (λ (x : Born). slice_get x.ids q.index ≡ Some id) e q.numbered);
        slotted = subst (λ (x : Born). slice_get (slots x.block) q.index ≡ Some q.slot) e q.slotted;
        base = q.base;
        size = q.size;
      }
    ]
      where
        front : (xs : List ℕ) (x i id : ℕ) → slice_get xs i ≡ Some id → slice_get (xs ++ x ∷ []) i ≡ Some id
        front [] x i id e = absurd (cc (e))
        front (y ∷ ys) x zero id e = e
        front (y ∷ ys) x (suc i) id e = front ys x i id e

    placed_still : (block i id : ℕ) → Placed slots sp m.objects block i id → Placed slots sp (born m.objects o) block i id
    placed_still block i id q = record { object = q.object; slot = q.slot; live = (born-object m.objects o id q.object q.live.0, q.live.1); slotted = q.slotted; base = q.base; size = q.size }

    lives_now : (x : Born) → Has x (bs ++ entered b more ∷ []) → (i id : ℕ) → slice_get x.ids i ≡ Some id → Placed slots sp (born m.objects o) x.block i id
    lives_now x h i id e = elim (has_or x bs (entered b more) h) [
      | inl a ↦ placed_still x.block i id (mem.lives x (has_front x bs (entered b ids) a) i id e)
      | inr eq ↦
          let e2 : slice_get more i ≡ Some id = subst (λ (y : Born). slice_get y.ids i ≡ Some id) eq e in
          let r : Placed slots sp (born m.objects o) b i id = elim (slice_get-push ids (length m.objects + 1) i id e2) [
            | inl old ↦ placed_still b i id (mem.lives (entered b ids) (has_last bs (entered b ids)) i id old.0)
            | inr new ↦ record {
              object = o;
              slot = slot;
              live = (subst (λ k. object_of (born m.objects o) k ≡ Some o) (sym new.1) (born-new m.objects o), refl);
              slotted = subst (λ k. slice_get (slots b) k ≡ Some slot) (sym new.0) here;
              base = refl;
              size = refl;
            }
          ] in
          subst (λ (y : Born). Placed slots sp (born m.objects o) y.block i id) (sym eq) r
    ]

    pub slot_birth : HasFrame slots cost (bs ++ entered b more ∷ []) (pass (Birth slot.size (auto_kind constant) (SlotSpot slot.offset)) w)
    slot_birth = record {
      holds = record {
        memory = record { flat = with_birth m o; blocks = mem.holds.memory.blocks };
        there = ap (option_map (born_in slot.size (auto_kind constant) (Some base))) mem.holds.there;
        words = birth_in_stack w.beside.functions m w.objects slot.size constant base mem.holds.words even (let l = mem.low in omega (arith, l)) clear room few;
      };
      low = mem.low;
      high = mem.high;
      area = mem.area;
      aligned = mem.aligned;
      only = λ id p live. elim (object-born m.objects o id p live.0) [
        | inl old ↦ elim (mem.only id p (old, live.1)) [ inl x ↦ inl x | inr y ↦ inr (elim y [ inl z ↦ inl z | inr q ↦ inr (still_open id p q) ]) ]
        | inr new ↦ inr (inr (record {
          of = entered b more;
          open_there = has_last bs (entered b more);
          index = length ids;
          slot = slot;
          numbered = slice_get-last ids (length m.objects + 1) ∙ ap Some (sym new.0);
          slotted = here;
          base = ap (λ (x : Obj). x.base) new.1;
          size = ap (λ (x : Obj). x.size) new.1;
        }))
      ];
      lives = lives_now;
    }

    -- the rest is as it was
    pub birth_rest : (depth : ℕ) → slot.offset + slot.size ≤ depth → LeavesRest (sp + depth) (sp + cost) mem.holds.memory (record { flat = with_birth m o; blocks = mem.holds.memory.blocks })
    birth_rest depth deep = record {
      objects = λ id p e. (p, born-object m.objects o id p e, refl, refl);
      lives = λ id p le l. (born-object m.objects o id p l.0, l.1);
      only = λ id p le l. elim (object-born m.objects o id p l.0) [ inl old ↦ (old, l.1) | inr new ↦ absurd (outside (p.base + p.size) le (ap (λ (x : Obj). x.base + x.size) new.1)) ];
      bare = λ at le none id p l. elim (object-born m.objects o id p l.0) [ inl old ↦ none id p (old, l.1) | inr new ↦ inr (under at (p.base + p.size) le (ap (λ (x : Obj). x.base + x.size) new.1)) ];
      cells = λ at le. birth-other (record { flat = m; blocks = mem.holds.words.held.blocks }) o at mem.holds.words.held.safe room (inr (omega (arith, le, deep)));
      stack = refl;
    }
      where
        outside : (end : ℕ) → sp + cost ≤ end → end ≡ base + slot.size → ⊥
        outside end le is = let i = inside in omega (arith, le, is, i)

        under : (at end : ℕ) → sp + depth ≤ at → end ≡ base + slot.size → end ≤ at
        under at end le is = omega (arith, le, is, deep)

  -- all objects of a block
  abbrev Rest : List ℕ → List Auto → Type 0
  Rest ids todo = (j : ℕ) (x : Auto) → slice_get todo j ≡ Some x → slice_get (slots b) (length ids + j) ≡ Some x.slot

  pub all_births : (todo : List Auto) (ids more : List ℕ) (w v : World) → HasFrame slots cost (bs ++ entered b ids ∷ []) w → Rest ids todo → born_autos todo ids w ≡ Done more v → HasFrame slots cost (bs ++ entered b more ∷ []) v
  all_births [] ids more w v mem rest e =
      let same : ids ≡ more = cc (e) in
      let world : w ≡ v = cc (e) in
      subst (λ x. HasFrame slots cost (bs ++ entered b more ∷ []) x) world (subst (λ l. HasFrame slots cost (bs ++ entered b l ∷ []) w) same mem)
  all_births (a ∷ todo) ids more w v mem rest e = by_room (nat_le 4000000000 (length w.objects)) refl (λ n mem2 rest2 e2. all_births todo (ids ++ n ∷ []) more (pass (birth_of a) w) v mem2 rest2 e2) e
    where
      birth_of : Auto → Item
      birth_of a = Birth a.slot.size (auto_kind a.slot.constant) (SlotSpot a.slot.offset)

      go_on : Outcome ℕ → Outcome (List ℕ)
      go_on r = and_then r (λ id u. born_autos todo (ids ++ id ∷ []) u)

      by_room : (full : Bool) → nat_le 4000000000 (length w.objects) ≡ full
          → ((n : ℕ) → HasFrame slots cost (bs ++ entered b (ids ++ n ∷ []) ∷ []) (pass (birth_of a) w) → Rest (ids ++ n ∷ []) todo → born_autos todo (ids ++ n ∷ []) (pass (birth_of a) w) ≡ Done more v → HasFrame slots cost (bs ++ entered b more ∷ []) v)
          → go_on (if full then Over (BirthLimit w) else Done (length w.objects + 1) (pass (birth_of a) w)) ≡ Done more v
          → HasFrame slots cost (bs ++ entered b more ∷ []) v
      by_room true is next e = absurd (cc (e))
      by_room false is next e =
          let first : slice_get (slots b) (length ids) ≡ Some a.slot = subst (λ n. slice_get (slots b) n ≡ Some a.slot) (omega arith) (rest 0 a refl) in
          let count = mem.holds.words.held.holds.count in
          let one = slot_birth ids w a.slot a.slot.constant mem first (few_objects (length w.objects) (length mem.holds.memory.flat.objects) is count) in
          let mem2 = subst (λ n. HasFrame slots cost (bs ++ entered b (ids ++ (n + 1) ∷ []) ∷ []) (pass (birth_of a) w)) count one in
          next (length w.objects + 1) mem2
          (λ j x q. let l = length-append ids ((length w.objects + 1) ∷ []) in let r = rest (suc j) x q in subst (λ n. slice_get (slots b) n ≡ Some x.slot) (omega (arith, l)) r)
          e

  -- they leave the rest
  module _ (depth : ℕ) (deep : (i : ℕ) (s : Slot) → slice_get (slots b) i ≡ Some s → s.offset + s.size ≤ depth) where
    pub births_rest : (todo : List Auto) (ids more : List ℕ) (w v : World) → HasFrame slots cost (bs ++ entered b ids ∷ []) w → Rest ids todo → born_autos todo ids w ≡ Done more v
        → (x y : Store) → w.beside.memory ≡ Some x → v.beside.memory ≡ Some y → LeavesRest (foot w + depth) (foot w + cost) x y
    births_rest [] ids more w v mem rest e x y xs ys =
        let world : w ≡ v = cc (e) in
        subst (λ z. LeavesRest (foot w + depth) (foot w + cost) x z) (one_store x y (sym xs ∙ ap (λ (u : World). u.beside.memory) world ∙ ys)) (rest_same (foot w + depth) (foot w + cost) x)
    births_rest (a ∷ todo) ids more w v mem rest e x y xs ys = by_room (nat_le 4000000000 (length w.objects)) refl (λ n mem2 rest2 e2 z zs. births_rest todo (ids ++ n ∷ []) more (pass (birth_of a) w) v mem2 rest2 e2 z y zs ys) e
      where
        birth_of : Auto → Item
        birth_of a = Birth a.slot.size (auto_kind a.slot.constant) (SlotSpot a.slot.offset)

        go_on : Outcome ℕ → Outcome (List ℕ)
        go_on r = and_then r (λ id u. born_autos todo (ids ++ id ∷ []) u)

        by_room : (full : Bool) → nat_le 4000000000 (length w.objects) ≡ full
            → ((n : ℕ) → HasFrame slots cost (bs ++ entered b (ids ++ n ∷ []) ∷ []) (pass (birth_of a) w) → Rest (ids ++ n ∷ []) todo → born_autos todo (ids ++ n ∷ []) (pass (birth_of a) w) ≡ Done more v
            → (z : Store) → (pass (birth_of a) w).beside.memory ≡ Some z → LeavesRest (foot w + depth) (foot w + cost) z y)
            → go_on (if full then Over (BirthLimit w) else Done (length w.objects + 1) (pass (birth_of a) w)) ≡ Done more v
            → LeavesRest (foot w + depth) (foot w + cost) x y
        by_room true is next e = absurd (cc (e))
        by_room false is next e =
            let first : slice_get (slots b) (length ids) ≡ Some a.slot = subst (λ n. slice_get (slots b) n ≡ Some a.slot) (omega arith) (rest 0 a refl) in
            let count = mem.holds.words.held.holds.count in
            let few = few_objects (length w.objects) (length mem.holds.memory.flat.objects) is count in
            let one = slot_birth ids w a.slot a.slot.constant mem first few in
            let mem2 = subst (λ n. HasFrame slots cost (bs ++ entered b (ids ++ (n + 1) ∷ []) ∷ []) (pass (birth_of a) w)) count one in
            let base : ℕ = foot w + a.slot.offset in
            let now : Store = record { flat = with_birth mem.holds.memory.flat (record { size = a.slot.size; kind = auto_kind a.slot.constant; base = foot w + a.slot.offset; live = true }); blocks = mem.holds.memory.blocks } in
            let there : (pass (birth_of a) w).beside.memory ≡ Some now = ap (option_map (born_in a.slot.size (auto_kind a.slot.constant) (Some base))) mem.holds.there in
            let born_first = birth_rest ids w a.slot a.slot.constant mem first few depth (deep (length ids) a.slot first) in
            let born_last = next (length w.objects + 1) mem2
            (λ j q r. let l = length-append ids ((length w.objects + 1) ∷ []) in let s = rest (suc j) q r in subst (λ n. slice_get (slots b) n ≡ Some q.slot) (omega (arith, l)) s)
            e now there in
            subst (λ z. LeavesRest (foot w + depth) (foot w + cost) z y) (one_store mem.holds.memory x (sym mem.holds.there ∙ xs))
            (rest_then (foot w + depth) (foot w + cost) mem.holds.memory now y born_first born_last)

  -- ---- deaths, the last born first

  -- the objects of two places are two
  two_places : (sp : ℕ) (table : List Obj) (c d i j id other : ℕ) → (c ≢ d) ⊎ (i ≢ j) → Placed slots sp table c i id → Placed slots sp table d j other → id ≢ other
  two_places sp table c d i j id other apart p q e =
      let same : Some p.object ≡ Some q.object = sym p.live.0 ∙ (ap (object_of table) e ∙ q.live.0) in
      let one : p.object.base ≡ q.object.base = base_of p.object q.object same in
      let pb = p.base in
      let qb = q.base in
      elim (fits.apart c d i j p.slot q.slot p.slotted q.slotted apart) [ inl x ↦ omega (arith, x, one, pb, qb) | inr y ↦ omega (arith, y, one, pb, qb) ]
    where
      base_of : (x y : Obj) → Some x ≡ Some y → x.base ≡ y.base
      base_of x y e = cc (e)

  module _ (front : List ℕ) (id : ℕ) (w : World) (mem : HasFrame slots cost (bs ++ entered b (front ++ id ∷ []) ∷ []) w) where
    abbrev table : List Obj
    table = mem.holds.memory.flat.objects

    abbrev under : ℕ
    under = foot w

    abbrev last : Born
    last = entered b (front ++ id ∷ [])

    dying : Placed slots under table b (length front) id
    dying = mem.lives last (has_last bs last) (length front) id (slice_get-last front id)

    stays_placed : (c i other : ℕ) → other ≢ id → Placed slots under table c i other → Placed slots under (ended table id) c i other
    stays_placed c i other n q = record { object = q.object; slot = q.slot; live = ended-live table id dying.object dying.live.0 other q.object n q.live; slotted = q.slotted; base = q.base; size = q.size }

    in_front : (i other : ℕ) → slice_get front i ≡ Some other → slice_get (front ++ id ∷ []) i ≡ Some other
    in_front i other e = slice_get-front front (id ∷ []) i other e

    lives_after : (x : Born) → Has x (bs ++ entered b front ∷ []) → (i other : ℕ) → slice_get x.ids i ≡ Some other → Placed slots under (ended table id) x.block i other
    lives_after x h i other e = elim (has_or x bs (entered b front) h) [
      | inl a ↦
          let q = mem.lives x (has_front x bs last a) i other e in
          stays_placed x.block i other (two_places under table x.block b i (length front) other id (inl (fresh x a)) q dying) q
      | inr eq ↦
          let e2 : slice_get front i ≡ Some other = subst (λ (y : Born). slice_get y.ids i ≡ Some other) eq e in
          let q = mem.lives last (has_last bs last) i other (in_front i other e2) in
          let n = within front i other e2 in
          let r = stays_placed b i other (two_places under table b b i (length front) other id (inr (λ k. omega (arith, n, k))) q dying) q in
          subst (λ (y : Born). Placed slots under (ended table id) y.block i other) (sym eq) r
    ]

    open_after : (other : ℕ) (p : Obj) → other ≢ id → IsOpen slots (bs ++ last ∷ []) under other p → IsOpen slots (bs ++ entered b front ∷ []) under other p
    open_after other p n q = elim (has_or q.of bs last q.open_there) [
      | inl a ↦ record { of = q.of; open_there = has_front q.of bs (entered b front) a; index = q.index; slot = q.slot; numbered = q.numbered; slotted = q.slotted; base = q.base; size = q.size }
      | inr eq ↦
          let e2 : slice_get (front ++ id ∷ []) q.index ≡ Some other = subst (λ (y : Born). slice_get y.ids q.index ≡ Some other) eq q.numbered in
          elim (slice_get-push front id q.index other e2) [
            | inl old ↦ record {
              of = entered b front;
              open_there = has_last bs (entered b front);
              index = q.index;
              slot = q.slot;
              numbered = old.0;
              slotted = subst (λ (y : Born). slice_get (slots y.block) q.index ≡ Some q.slot) eq q.slotted;
              base = q.base;
              size = q.size;
            }
            | inr new ↦ absurd (n new.1)
          ]
    ]

    pub slot_death : HasFrame slots cost (bs ++ entered b front ∷ []) (pass (Death id) w)
    slot_death = record {
      holds = record {
        memory = died_in id mem.holds.memory;
        there = ap (option_map (died_in id)) mem.holds.there;
        words = death w.beside.functions mem.holds.memory.flat w.objects id dying.object mem.holds.words dying.live;
      };
      low = mem.low;
      high = mem.high;
      area = mem.area;
      aligned = mem.aligned;
      only = λ other p live.
          let old = live-ended table id dying.object dying.live.0 other p live in
          elim (mem.only other p old.1) [ inl x ↦ inl x | inr y ↦ inr (elim y [ inl z ↦ inl z | inr q ↦ inr (open_after other p old.0 q) ]) ];
      lives = lives_after;
    }

    -- the rest is as it was
    pub death_rest : LeavesRest 0 (under + cost) mem.holds.memory (died_in id mem.holds.memory)
    death_rest = record {
      objects = λ other p e. moved other p e;
      lives = λ other p le l. ended-live table id dying.object dying.live.0 other p (λ same. in_it p le (sym l.0 ∙ ap (object_of table) same ∙ dying.live.0)) l;
      only = λ other p le l. (live-ended table id dying.object dying.live.0 other p l).1;
      bare = λ at le none other p l. none other p (live-ended table id dying.object dying.live.0 other p l).1;
      cells = λ at le. refl;
      stack = refl;
    }
      where
        in_it : (p : Obj) → under + cost ≤ p.base → Some p ≡ Some dying.object → ⊥
        in_it p le e =
            let same : p.base ≡ dying.object.base = base_of p dying.object e in
            let at = dying.base in
            let i = fits.inside b (length front) dying.slot dying.slotted in
            omega (arith, le, same, at, i)
          where
            base_of : (x y : Obj) → Some x ≡ Some y → x.base ≡ y.base
            base_of x y e = cc (e)

        some_place : object_of table id ≡ Some dying.object
        some_place = dying.live.0

        moved : (other : ℕ) (p : Obj) → object_of table other ≡ Some p → (q : Obj) × (object_of (ended table id) other ≡ Some q) × (q.base ≡ p.base) × (q.size ≡ p.size)
        moved other p e =
            let first = object-within table id dying.object some_place in
            let there = sym (object_of-at table id first.0) ∙ some_place in
            subst (λ l. (q : Obj) × (object_of l other ≡ Some q) × (q.base ≡ p.base) × (q.size ≡ p.size)) (sym (ended-is table id dying.object some_place)) (ended_kept table (id - 1) dying.object p other there e)

  -- all objects of a block die
  pub all_deaths : (front tail : List ℕ) (w : World) → HasFrame slots cost (bs ++ entered b (front ++ tail) ∷ []) w → HasFrame slots cost (bs ++ entered b front ∷ []) (all_dead tail w)
  all_deaths front [] w mem = subst (λ l. HasFrame slots cost (bs ++ entered b l ∷ []) w) (append-nil front) mem
  all_deaths front (id ∷ tail) w mem =
      let inner = all_deaths (front ++ id ∷ []) tail w (subst (λ l. HasFrame slots cost (bs ++ entered b l ∷ []) w) (sym (append_assoc front (id ∷ []) tail)) mem) in
      slot_death front id (all_dead tail w) inner

  -- they leave the rest
  pub deaths_rest : (front tail : List ℕ) (w : World) → HasFrame slots cost (bs ++ entered b (front ++ tail) ∷ []) w → (x y : Store) → w.beside.memory ≡ Some x → (all_dead tail w).beside.memory ≡ Some y → LeavesRest 0 (foot w + cost) x y
  deaths_rest front [] w mem x y xs ys = subst (λ z. LeavesRest 0 (foot w + cost) x z) (one_store x y (sym xs ∙ ys)) (rest_same 0 (foot w + cost) x)
  deaths_rest front (id ∷ tail) w mem x y xs ys =
      let mem1 = subst (λ l. HasFrame slots cost (bs ++ entered b l ∷ []) w) (sym (append_assoc front (id ∷ []) tail)) mem in
      let inner = all_deaths (front ++ id ∷ []) tail w mem1 in
      let first = deaths_rest (front ++ id ∷ []) tail w mem1 x inner.holds.memory xs inner.holds.there in
      let last = death_rest front id (all_dead tail w) inner in
      let there : (all_dead (id ∷ tail) w).beside.memory ≡ Some (died_in id inner.holds.memory) = ap (option_map (died_in id)) inner.holds.there in
      rest_then 0 (foot w + cost) x inner.holds.memory y first
      (subst (λ z. LeavesRest 0 (foot w + cost) inner.holds.memory z) (one_store (died_in id inner.holds.memory) y (sym there ∙ ys)) (subst (λ n. LeavesRest 0 (0x20000000 - n + cost) inner.holds.memory (died_in id inner.holds.memory)) (dead_used tail w) last))
