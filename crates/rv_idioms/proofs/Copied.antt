-- What is appended for a loop that copies units.
use Rattle.std.proofs.Common.{◌≡◌, ℕ, ◌+◌, ◌<◌, ℤ, pos, negsuc, List, [], ◌∷◌, ◌++◌, length}
use Rattle.std.proofs.Common.{to_z, of_z, w32, refl, ap, ◌∙◌, subst, arith}
use Rattle.std.proofs.lemmas.Int.{ints}
use Rattle.std.proofs.lemmas.List.{length-append}
use Rattle.ck_base.specs.declared.positions.Pos.{Pos}
use Rattle.rv_instr.specs.declared.instr.Instr.{Instr}
use Rattle.rv_instr.specs.declared.instr.Instr.TheVariants.{Branch, CapImm, Imm}
use Rattle.rv_instr.specs.declared.ops.BranchOp.TheVariants.{Bne}
use Rattle.rv_instr.specs.declared.ops.CapImmOp.TheVariants.{Cincoffsetimm}
use Rattle.rv_instr.specs.declared.ops.ImmOp.TheVariants.{Addi}
use Rattle.select_words.specs.Copying.{unit_words, copy_loop}
use Rattle.rv_emit.specs.Growing.{Size, Links, Puts, IsWordNumber, both_trapping}
use Rattle.rv_emit.specs.Leading.{IsHop, IsLedTo}
use Rattle.rv_idioms.specs.Copies.{Twice, RoundWords}
use Rattle.rv_emit.proofs.Appended.{more, three_more}
use Rattle.rv_emit.proofs.Landed.{back_over}

-- the words of the loop, but for the branch
abbrev pub copy_body : ℕ → List Instr
copy_body n = unit_words n ++ (CapImm Cincoffsetimm 28 28 (pos n) ∷ CapImm Cincoffsetimm 29 29 (pos n)
    ∷ Imm Addi 30 30 (negsuc 0) ∷ [])

-- a unit as 32 bits keep it
pub unit_again : (z : ℤ) (n : ℕ) → z ≡ pos n → n < 256 → to_z w32 (of_z w32 z) ≡ pos n
unit_again z n e lt = ap (λ y. to_z w32 (of_z w32 y)) e ∙ omega (arith, ints, lt)

-- an advance by a unit
pub advance_is : (r x y n : ℕ) (z : ℤ) (i : Instr) → i ≡ CapImm Cincoffsetimm x y z → x ≡ r → y ≡ r → z ≡ pos n
    → i ≡ CapImm Cincoffsetimm r r (pos n)
advance_is r x y n z i e p q u = e ∙ ap (λ k. CapImm Cincoffsetimm k y z) p ∙ ap (λ k. CapImm Cincoffsetimm r k z) q
    ∙ ap (λ (k : ℤ). CapImm Cincoffsetimm r r k) u

-- an advance of both registers and the count
pub body_put : (unit : ℕ) (t0 t1 t2 t3 t4 : List Instr) (i j k : Instr) → t1 ≡ t0 ++ unit_words unit
    → t2 ≡ t1 ++ i ∷ [] → t3 ≡ t2 ++ j ∷ [] → t4 ≡ t3 ++ k ∷ [] → i ≡ CapImm Cincoffsetimm 28 28 (pos unit)
    → j ≡ CapImm Cincoffsetimm 29 29 (pos unit) → k ≡ Imm Addi 30 30 (negsuc 0) → t4 ≡ t0 ++ copy_body unit
body_put unit t0 t1 t2 t3 t4 i j k e f g h p q r =
    more t0 (unit_words unit) _ t1 t4 e (three_more t1 t2 t3 t4 i j k _ _ _ f g h p q r)

-- two words behind others trap
pub both_at : (old mid now : Links) (m n : ℕ) (first second : Pos) → now ≡ both_trapping mid m first second → mid ≡ old
    → m ≡ n → now ≡ both_trapping old n first second
both_at old mid now m n first second t e same =
    t ∙ ap (λ (x : Links). both_trapping x m first second) e ∙ ap (λ k. both_trapping old k first second) same

pub round_copied : (units unit : ℕ) (first second : Pos) (old numbered new : Size) (body : List Instr)
    (top count : ℕ) → count ≡ 30 → Puts (IsWordNumber 30 units) old numbered → numbered.links ≡ old.links
    → top ≡ length numbered.text → body ≡ numbered.text ++ copy_body unit
    → IsLedTo (body ++ Branch Bne count 0 (pos 0) ∷ []) new.text (length body) top
    → new.links ≡ both_trapping numbered.links (length numbered.text) first second
    → Puts (RoundWords (Twice old new first second) units unit) old new
round_copied units unit first second old numbered new body top count same n links e b l twice =
    let led = subst (λ r. IsLedTo (body ++ Branch Bne r 0 (pos 0) ∷ []) new.text (length body) top) same l in
    let long : IsHop (length numbered.text + 5) (length numbered.text) (negsuc 19) = omega (arith, ints) in
    let whole = back_over numbered.text (copy_body unit) body new.text (Branch Bne 30 0 (pos 0)) top (negsuc 19) b e led
    (omega arith) long in
    record {
      added = n.added ++ copy_loop unit;
      is = more old.text n.added (copy_loop unit) numbered.text new.text n.is whole;
      are = record {
        number = n.added;
        makes = n.are;
        reports = both_at old.links numbered.links new.links (length numbered.text) (length old.text + length n.added)
            first second twice links (ap length n.is ∙ length-append old.text n.added);
        are = refl;
      };
    }
