-- The fields of a word, and numbers in two's complement.
use Rattle.std.proofs.Common.{◌≡◌, ℕ, ◌+◌, ◌*◌, ◌/◌, ◌%◌, ◌<◌, ◌^◌, ℤ, pos, negsuc, arith}
use Rattle.std.proofs.lemmas.Int.{ints}
use Rattle.std.proofs.lemmas.Bool.Decides.{nat_tests}
use Rattle.sc_isa.specs.Table.{r_word, field, IsBetween, IsShort, IsEven, low_bits}
use Rattle.sc_isa.specs.Reading.{rd_of, funct3_of, rs1_of, rs2_of, funct7_of, extend, branch_bits, jump_bits}

-- each field of a word is the one that was put there
module _ (w opcode rd funct3 rs1 rs2 funct7 : ℕ) (e : w ≡ r_word opcode rd funct3 rs1 rs2 funct7) (o : opcode < 128) (d : rd < 32) (f : funct3 < 8) (a : rs1 < 32) (b : rs2 < 32) (g : funct7 < 128) where
  pub opcode_is : w % 2 ^ 7 ≡ opcode
  opcode_is = omega arith

  pub rd_is : rd_of w ≡ rd
  rd_is = omega arith

  pub funct3_is : funct3_of w ≡ funct3
  funct3_is = omega arith

  pub rs1_is : rs1_of w ≡ rs1
  rs1_is = omega arith

  pub rs2_is : rs2_of w ≡ rs2
  rs2_is = omega arith

  pub funct7_is : funct7_of w ≡ funct7
  funct7_is = omega arith

  pub short_is : w / 2 ^ 20 ≡ rs2 + funct7 * 2 ^ 5
  short_is = omega arith

-- a word is the sum of its fields
pub whole : (w : ℕ) → w < 2 ^ 32 → r_word (w % 2 ^ 7) (rd_of w) (funct3_of w) (rs1_of w) (rs2_of w) (funct7_of w) ≡ w
whole w h = omega arith

pub rebuilt : (w o d f a b g : ℕ) → w < 2 ^ 32 → w % 2 ^ 7 ≡ o → rd_of w ≡ d → funct3_of w ≡ f → rs1_of w ≡ a → rs2_of w ≡ b → funct7_of w ≡ g → r_word o d f a b g ≡ w
rebuilt w o d f a b g h o-is d-is f-is a-is b-is g-is = omega arith

-- the two parts of a branch's offset, and the offset from them
pub branch_bits_is : (n : ℕ) → n < 2 ^ 13 → n % 2 ≡ 0 → branch_bits (field n 1 4 * 2 + field n 11 1) (field n 12 1 * 2 ^ 6 + field n 5 6) ≡ n
branch_bits_is n h e = omega arith

pub branch_low : (low high : ℕ) → low < 32 → high < 128 → field (branch_bits low high) 1 4 * 2 + field (branch_bits low high) 11 1 ≡ low
branch_low low high l h = omega arith

pub branch_high : (low high : ℕ) → low < 32 → high < 128 → field (branch_bits low high) 12 1 * 2 ^ 6 + field (branch_bits low high) 5 6 ≡ high
branch_high low high l h = omega arith

-- the same of a jump
pub jump_bits_is : (n : ℕ) → n < 2 ^ 21 → n % 2 ≡ 0 → jump_bits (field n 12 8 + field n 11 1 * 2 ^ 8 + field n 1 10 * 2 ^ 9 + field n 20 1 * 2 ^ 19) ≡ n
jump_bits_is n h e = omega arith

pub jump_upper : (u : ℕ) → u < 2 ^ 20 → let n : ℕ = jump_bits u in field n 12 8 + field n 11 1 * 2 ^ 8 + field n 1 10 * 2 ^ 9 + field n 20 1 * 2 ^ 19 ≡ u
jump_upper u h = omega arith

-- numbers of 12, 13 and 21 bits, as they are written and read
pub extend_short : (z : ℤ) → IsShort z → extend (2 ^ 11) (low_bits 12 z) ≡ z
extend_short (pos n) h = grind (arith, ints, nat_tests)
extend_short (negsuc n) h = grind (arith, ints, nat_tests)

pub extend_branch : (z : ℤ) → IsBetween (negsuc 4095) (pos 4094) z → extend (2 ^ 12) (low_bits 13 z) ≡ z
extend_branch (pos n) h = grind (arith, ints, nat_tests)
extend_branch (negsuc n) h = grind (arith, ints, nat_tests)

pub extend_jump : (z : ℤ) → IsBetween (negsuc 1048575) (pos 1048574) z → extend (2 ^ 20) (low_bits 21 z) ≡ z
extend_jump (pos n) h = grind (arith, ints, nat_tests)
extend_jump (negsuc n) h = grind (arith, ints, nat_tests)

pub short_fits : (n : ℕ) → n < 2 ^ 12 → IsShort (extend (2 ^ 11) n)
short_fits n h = grind (arith, ints, nat_tests)

pub branch_fits : (n : ℕ) → n < 2 ^ 13 → n % 2 ≡ 0 → IsBetween (negsuc 4095) (pos 4094) (extend (2 ^ 12) n)
branch_fits n h e = grind (arith, ints, nat_tests)

pub jump_fits : (n : ℕ) → n < 2 ^ 21 → n % 2 ≡ 0 → IsBetween (negsuc 1048575) (pos 1048574) (extend (2 ^ 20) n)
jump_fits n h e = grind (arith, ints, nat_tests)

pub low_short : (n : ℕ) → n < 2 ^ 12 → low_bits 12 (extend (2 ^ 11) n) ≡ n
low_short n h = grind (arith, ints, nat_tests)

pub low_branch : (n : ℕ) → n < 2 ^ 13 → low_bits 13 (extend (2 ^ 12) n) ≡ n
low_branch n h = grind (arith, ints, nat_tests)

pub low_jump : (n : ℕ) → n < 2 ^ 21 → low_bits 21 (extend (2 ^ 20) n) ≡ n
low_jump n h = grind (arith, ints, nat_tests)

pub even_branch : (z : ℤ) (n : ℕ) → low_bits 13 z ≡ n → n % 2 ≡ 0 → IsEven z
even_branch z n e h = omega arith

pub even_jump : (z : ℤ) (n : ℕ) → low_bits 21 z ≡ n → n % 2 ≡ 0 → IsEven z
even_jump z n e h = omega arith
