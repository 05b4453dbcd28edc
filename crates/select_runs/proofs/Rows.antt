-- Worked rows: words that selection appends, by hand.
use Rattle.std.proofs.Common.{◌≡◌, ℕ, inr, pos, List, [], ◌∷◌, refl, arith}
use Rattle.rv_instr.specs.declared.instr.Instr.{Instr}
use Rattle.rv_instr.specs.declared.instr.Instr.TheVariants.{Upper, Store, Clc, Imm, CapReg, CapGet}
use Rattle.rv_instr.specs.declared.ops.UpperOp.TheVariants.{Lui}
use Rattle.rv_instr.specs.declared.ops.ImmOp.TheVariants.{Addi, Addiw}
use Rattle.rv_instr.specs.declared.ops.StoreOp.TheVariants.{Csc}
use Rattle.rv_instr.specs.declared.ops.CapGetOp.TheVariants.{Cmove}
use Rattle.rv_instr.specs.declared.ops.CapRegOp.TheVariants.{Cincoffset}
use Rattle.purecap_abi.specs.Words.{load_code, store_code}
use Rattle.purecap_abi.specs.Numbers.{number_after}
use Rattle.select_words.specs.Entries.{moved_from, stack_place}
use Rattle.select_words.specs.Numbers.{MakesNumber}

-- 5 takes one word, and 4101 two
five : MakesNumber 28 5 (Imm Addi 28 0 (pos 5) ∷ [])
unfolding number_after Rattle.purecap_abi.specs.Numbers.plus
five = record { own = ((refl, inr refl), tt); some = omega arith; made = λ x. refl }

more : MakesNumber 28 4101 (Upper Lui 28 1 ∷ Imm Addiw 28 28 (pos 5) ∷ [])
unfolding number_after Rattle.purecap_abi.specs.Numbers.plus Rattle.purecap_abi.specs.Numbers.signed_word
more = record { own = (refl, ((refl, Rattle.std.proofs.Common.inl refl), tt)); some = omega arith; made = λ x. refl }

-- a slot at 16 is loaded in one word, and one at 4096 in three
near_slot : load_code 28 2 16 28 ≡ Clc 28 2 (pos 16) ∷ []
near_slot = refl

far_slot : store_code 28 2 4096 31 ≡ Upper Lui 31 1 ∷ CapReg Cincoffset 31 2 31 ∷ Store Csc 28 31 (pos 0) ∷ []
far_slot = refl

-- c10 and c11 change places by c28
abbrev swap : List Instr
swap = CapGet Cmove 28 10 ∷ CapGet Cmove 10 11 ∷ CapGet Cmove 11 28 ∷ []

first_from_second : moved_from swap 10 ≡ 11
unfolding moved_from
first_from_second = refl

second_from_first : moved_from swap 11 ≡ 10
unfolding moved_from
second_from_first = refl

third_stays : moved_from swap 12 ≡ 12
unfolding moved_from
third_stays = refl

-- the ninth argument stands behind the link, 16 bytes above the caller's stack
ninth : stack_place 8 ≡ 16
ninth = refl
