-- Short sequences whose words are instructions.
use Rattle.std.proofs.Common.{◌≡◌, ◌<◌, ◌≤◌, ℕ, zero, suc, ◌+◌, ◌-◌, ◌*◌, ◌^◌, ◌==◌, Bool, true, false, ◌&&◌, ◌||◌, if◌then◌else◌, nat_lt, nat_le, [], ◌∷◌, ◌++◌, refl, subst, ℤ, pos, negsuc, neg_ℤ, ◌-ℤ◌, Option, Some, None, arith}
use Rattle.std.proofs.lemmas.Bool.Decides.{nat_tests}
use Rattle.std.proofs.lemmas.Int.{ints}
use Rattle.std.specs.Int.{w32, cast_signed}
use Rattle.sc_isa.specs.declared.instruction.Instr.{Instr}
use Rattle.sc_isa.specs.declared.instruction.Instr.TheVariants.{Lui}
use Rattle.sc_isa.specs.declared.instruction.LoadOp.TheVariants.{Lw}
use Rattle.sc_isa.specs.declared.instruction.StoreOp.TheVariants.{Sw}
use Rattle.sc_isa.specs.declared.instruction.RegOp.TheVariants as reg
use Rattle.sc_isa.specs.Table.{IsSound, IsShort, IsBetween, IsEven}
use Rattle.sc_isa_image.specs.Stubs.{upper_of, lower_of}
use Rattle.sc_gen_code.specs.declared.symbolic.Symbolic.{Symbolic}
use Rattle.sc_gen_code.specs.declared.symbolic.Symbolic.TheVariants.{Plain, Upper, Lower, Call}
use Rattle.sc_gen_code.specs.declared.symbolic.Access.{Access}
use Rattle.sc_gen_code.specs.declared.symbolic.Access.TheVariants as access
use Rattle.sc_gen_code.specs.declared.symbolic.Target.{Target}
use Rattle.sc_gen_code.specs.Code.{Code, x0, ra, sp, t0, t1, t2, a0, a1, a2, addi, apply, ecall, accessed, li, near, push, pop, service, block_service, tagged, copied, at_target, address, shift_of, over, jump}
use Rattle.sc_placed_laws.specs.Sound.{Fits, Follows, IsSoundCode, Links}

links_app : (x y : Code) → Links x → Links (x ++ y)
links_app [] y h = absurd h
links_app (Plain i ∷ xs) y h = h
links_app (Upper t ∷ xs) y h = absurd h
links_app (Lower w t ∷ xs) y h = absurd h
links_app (Call t ∷ xs) y h = absurd h

follows_app : (x : Symbolic) (xs y : Code) → Follows x xs → Follows x (xs ++ y)
follows_app (Plain i) xs y h = tt
follows_app (Upper t) xs y h = tt
follows_app (Lower w t) xs y h = tt
follows_app (Call t) xs y h = links_app xs y h

-- one code behind another
pub app : (x y : Code) → IsSoundCode x → IsSoundCode y → IsSoundCode (x ++ y)
app [] y p q = q
app (x ∷ xs) y p q = ((p.0.0, follows_app x xs y p.0.1), app xs y p.1 q)

pub if_sound : (b : Bool) (x y : Code) → IsSoundCode x → IsSoundCode y → IsSoundCode (if b then x else y)
if_sound true x y p q = p
if_sound false x y p q = q

pub if_told : (b : Bool) (x y : Code) → (b ≡ true → IsSoundCode x) → (b ≡ false → IsSoundCode y) → IsSoundCode (if b then x else y)
if_told true x y p q = p refl
if_told false x y p q = q refl

pub if_instruction : (b : Bool) (i j : Instr) → IsSound i → IsSound j → IsSound (if b then i else j)
if_instruction true i j p q = p
if_instruction false i j p q = q

-- numbers
pub less : (m n : ℕ) → nat_lt m n ≡ true → m < n
less m n h = grind (arith, nat_tests)

pub not_less : (m n : ℕ) → nat_lt m n ≡ false → n ≤ m
not_less m n h = grind (arith, nat_tests)

pub upper_small : (n : ℕ) → upper_of n < 2 ^ 20
upper_small n = omega arith

pub lower_short : (n : ℕ) → IsShort (lower_of n)
lower_short n = grind (arith, ints, nat_tests)

pub pos_short : (n : ℕ) → n < 2048 → IsShort (pos n)
pos_short n h = grind (arith, ints, nat_tests)

pub zero_short : IsShort (pos 0)
zero_short = pos_short 0 (omega arith)

pub neg_short : (n : ℕ) → n ≤ 2048 → IsShort (neg_ℤ (pos n))
neg_short zero h = zero_short
neg_short (suc n) h = grind (arith, ints, nat_tests)

cast_short : (n : ℕ) → (nat_lt n 2048 || nat_le 4294965248 n) ≡ true → IsShort (cast_signed w32 n)
cast_short n h = grind (arith, ints, nat_tests)

-- registers
pub r-x0 : x0 < 32
r-x0 = omega arith

pub r-ra : ra < 32
r-ra = omega arith

pub r-sp : sp < 32
r-sp = omega arith

pub r-t0 : t0 < 32
r-t0 = omega arith

pub r-t1 : t1 < 32
r-t1 = omega arith

pub r-t2 : t2 < 32
r-t2 = omega arith

pub r-a0 : a0 < 32
r-a0 = omega arith

pub r-a1 : a1 < 32
r-a1 = omega arith

pub r-a2 : a2 < 32
r-a2 = omega arith

-- an access that names a register that there is
abbrev pub Reaches : Access → Type 0
Reaches (access.Load o rd) = rd < 32
Reaches (access.Store o rs) = rs < 32
Reaches (access.Address rd) = rd < 32

pub accessed_sound : (what : Access) (base : ℕ) (z : ℤ) → Reaches what → base < 32 → IsShort z → IsSound (accessed what base z)
accessed_sound (access.Load o rd) base z r b s = (r, b, s)
accessed_sound (access.Store o rs) base z r b s = (r, b, s)
accessed_sound (access.Address rd) base z r b s = (r, b, s)

pub li_sound : (rd n : ℕ) → rd < 32 → IsSoundCode (li rd n)
li_sound rd n r =
    if_told (nat_lt n 2048 || nat_le 4294965248 n) (addi rd x0 (cast_signed w32 n) ∷ []) (Plain (Lui rd (upper_of n)) ∷ addi rd rd (lower_of n) ∷ [])
    (λ e. (((r, r-x0, cast_short n e), tt), tt))
    (λ e. (((r, upper_small n), tt), (((r, r, lower_short n), tt), tt)))

pub near_sound : (offset : ℕ) (what : Access) → Reaches what → IsSoundCode (near offset what)
near_sound offset what r =
    if_told (nat_lt offset 2048) (Plain (accessed what sp (pos offset)) ∷ []) (Plain (Lui t0 (upper_of offset)) ∷ apply reg.Add t0 t0 sp ∷ Plain (accessed what t0 (lower_of offset)) ∷ [])
    (λ e. ((accessed_sound what sp (pos offset) r r-sp (pos_short offset (less offset 2048 e)), tt), tt))
    (λ e. (((r-t0, upper_small offset), tt), (((r-t0, r-t0, r-sp), tt), ((accessed_sound what t0 (lower_of offset) r r-t0 (lower_short offset), tt), tt))))

pub push_sound : (t : ℕ) → IsSoundCode (push t)
push_sound t = near_sound t (access.Store Sw a0) r-a0

pub pop_sound : (rd t : ℕ) → rd < 32 → IsSoundCode (pop rd t)
pop_sound rd t r = near_sound t (access.Load Lw rd) r

pub service_sound : (k : ℕ) → k < 2048 → IsSoundCode (service k)
service_sound k h = (((r-t0, r-x0, pos_short k h), tt), ((tt, tt), tt))

pub block_service_sound : (k b : ℕ) → k < 2048 → IsSoundCode (block_service k b)
block_service_sound k b h = (((r-t0, r-x0, pos_short k h), tt), app (li t1 b) (ecall ∷ []) (li_sound t1 b r-t1) ((tt, tt), tt))

pub tagged_sound : IsSoundCode tagged
tagged_sound = service_sound 4 (omega arith)

pub copied_sound : (size : ℕ) → IsSoundCode (copied size)
copied_sound size = app (li a2 size) (service 5) (li_sound a2 size r-a2) (service_sound 5 (omega arith))

pub at_target_sound : (what : Access) (target : Target) → Reaches what → IsSoundCode (at_target what target)
at_target_sound what target r = ((tt, tt), ((accessed_sound what t0 (pos 0) r r-t0 zero_short, tt), tt))

pub address_sound : (target : Target) → IsSoundCode (address target)
address_sound target = app (at_target (access.Address a0) target) tagged (at_target_sound (access.Address a0) target r-a0) tagged_sound

-- shifts
abbrev pub Shifts : ℤ → Type 0
Shifts z = IsBetween (pos 0) (pos 31) z

abbrev pub ShiftFits : Option ℤ → Type 0
ShiftFits None = Unit {0}
ShiftFits (Some k) = Shifts k

pub shifts : (n : ℕ) → n < 32 → Shifts (pos n)
shifts n h = grind (arith, ints, nat_tests)

pick : (b : Bool) (n : ℕ) (o : Option ℤ) → n < 32 → ShiftFits o → ShiftFits (if b then Some (pos n) else o)
pick true n o h r = shifts n h
pick false n o h r = r

pub shift_fits : (n : ℕ) → ShiftFits (shift_of n)
shift_fits n =
    let o10 : Option ℤ = if n == 1024 then Some (pos 10) else None in
    let o9 : Option ℤ = if n == 512 then Some (pos 9) else o10 in
    let o8 : Option ℤ = if n == 256 then Some (pos 8) else o9 in
    let o7 : Option ℤ = if n == 128 then Some (pos 7) else o8 in
    let o6 : Option ℤ = if n == 64 then Some (pos 6) else o7 in
    let o5 : Option ℤ = if n == 32 then Some (pos 5) else o6 in
    let o4 : Option ℤ = if n == 16 then Some (pos 4) else o5 in
    let o3 : Option ℤ = if n == 8 then Some (pos 3) else o4 in
    let o2 : Option ℤ = if n == 4 then Some (pos 2) else o3 in
    let o1 : Option ℤ = if n == 2 then Some (pos 1) else o2 in
    pick (n == 1) 0 o1 (omega arith) (pick (n == 2) 1 o2 (omega arith) (pick (n == 4) 2 o3 (omega arith) (pick (n == 8) 3 o4 (omega arith) (pick (n == 16) 4 o5 (omega arith)
    (pick (n == 32) 5 o6 (omega arith) (pick (n == 64) 6 o7 (omega arith) (pick (n == 128) 7 o8 (omega arith) (pick (n == 256) 8 o9 (omega arith) (pick (n == 512) 9 o10 (omega arith)
    (pick (n == 1024) 10 None (omega arith) tt))))))))))

-- jumps
abbrev pub Jumps : ℤ → Type 0
Jumps z = IsBetween (negsuc 1048575) (pos 1048574) z × IsEven z

forward : (n : ℕ) → n < 262144 → Jumps (pos (4 * n))
forward n h = grind (arith, ints, nat_tests)

backward : (n : ℕ) → n < 262143 → Jumps (negsuc (4 * n + 3))
backward n h = grind (arith, ints, nat_tests)

if_jumps : (b : Bool) (y z : ℤ) → (b ≡ true → Jumps y) → Jumps z → Jumps (if b then y else z)
if_jumps true y z p q = p refl
if_jumps false y z p q = q

stays : Jumps (pos 0)
stays = forward 0 (omega arith)

further_on : (n : ℕ) → n < 262143 → Jumps (pos (4 * n + 4))
further_on n h = let e : 4 * (n + 1) ≡ 4 * n + 4 = omega arith in subst (λ (k : ℕ). Jumps (pos k)) e (forward (n + 1) (omega (arith, h)))

pub over_fits : (n : ℕ) → Fits (over n)
over_fits n =
    let j = if_jumps (nat_lt n 262143) (pos (4 * n + 4)) (pos 0) (λ e. further_on n (less n 262143 e)) stays in
    (r-x0, j.0, j.1)

ahead : (from d : ℕ) → d < 262144 → Jumps (pos (4 * (from + d)) -ℤ pos (4 * from))
ahead from d h = let e : pos (4 * d) ≡ pos (4 * (from + d)) -ℤ pos (4 * from) = omega (arith, ints) in subst Jumps e (forward d h)

behind : (to d : ℕ) → d < 262143 → Jumps (pos (4 * to) -ℤ pos (4 * (to + suc d)))
behind to d h = let e : negsuc (4 * d + 3) ≡ pos (4 * to) -ℤ pos (4 * (to + suc d)) = omega (arith, ints) in subst Jumps e (backward d h)

both-left : (a b : Bool) → (a && b) ≡ true → a ≡ true
both-left true b h = refl
both-left false b h = cc

both-right : (a b : Bool) → (a && b) ≡ true → b ≡ true
both-right true b h = h
both-right false b h = cc

between : (from to : ℕ) → from < 262144 → to < 262144 → (b : Bool) → nat_le from to ≡ b → Jumps (pos (4 * to) -ℤ pos (4 * from))
between from to f t true g =
    let le : from ≤ to = grind (arith, nat_tests) in
    let e : from + (to - from) ≡ to = omega (arith, le) in
    subst (λ (k : ℕ). Jumps (pos (4 * k) -ℤ pos (4 * from))) e (ahead from (to - from) (omega (arith, t)))
between from to f t false g =
    let lt : to < from = grind (arith, nat_tests) in
    let e : to + suc (from - to - 1) ≡ from = omega (arith, lt) in
    subst (λ (k : ℕ). Jumps (pos (4 * to) -ℤ pos (4 * k))) e (behind to (from - to - 1) (omega (arith, f, lt)))

pub jump_fits : (from to : ℕ) → Fits (jump from to)
jump_fits from to =
    let near_both = nat_lt from 262144 && nat_lt to 262144 in
    let j = if_jumps near_both (pos (4 * to) -ℤ pos (4 * from)) (pos 0)
    (λ e. between from to (less from 262144 (both-left (nat_lt from 262144) (nat_lt to 262144) e)) (less to 262144 (both-right (nat_lt from 262144) (nat_lt to 262144) e)) (nat_le from to) refl) stays in
    (r-x0, j.0, j.1)

-- branches
abbrev pub Branches : ℤ → Type 0
Branches z = IsBetween (negsuc 4095) (pos 4094) z × IsEven z

pub branch_on : (n : ℕ) → n < 1023 → Branches (pos (4 * n + 4))
branch_on n h = grind (arith, ints, nat_tests)

pub branch_eight : Branches (pos 8)
branch_eight = branch_on 1 (omega arith)

back_by : (n : ℕ) → n < 1024 → Branches (negsuc (4 * n + 3))
back_by n h = grind (arith, ints, nat_tests)

pub branch_seven : Branches (negsuc 7)
branch_seven = back_by 1 (omega arith)

pub branch_zero : Branches (pos 0)
branch_zero = grind (arith, ints, nat_tests)

pub branch_back : (n : ℕ) → n ≤ 1024 → Branches (neg_ℤ (pos (4 * n)))
branch_back zero h = branch_zero
branch_back (suc n) h = let e : suc (4 * n + 3) ≡ 4 * suc n = omega arith in subst (λ (k : ℕ). Branches (neg_ℤ (pos k))) e (back_by n (omega (arith, h)))
