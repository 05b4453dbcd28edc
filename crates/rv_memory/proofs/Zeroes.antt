-- Numbers in registers, and words that make granules zero.
use Rattle.std.proofs.Common.{◌≡◌, ℕ, zero, suc, ◌+◌, ◌*◌, ◌^◌, ◌<◌, ℤ, pos, negsuc, List, [], ◌∷◌, ◌++◌}
use Rattle.std.proofs.Common.{to_z, w32, length, refl, ap, ◌∙◌, subst, sym, arith, append_assoc}
use Rattle.std.proofs.lemmas.Int.{ints}
use Rattle.ck_int.specs.Kinds.{kept_of}
use Rattle.cap_machine.specs.Integers.{extended}
use Rattle.rv_instr.specs.declared.instr.Instr.{Instr}
use Rattle.rv_instr.specs.declared.instr.Instr.TheVariants.{Store, Branch, CapImm, Imm}
use Rattle.rv_instr.specs.declared.ops.StoreOp.TheVariants.{Csc}
use Rattle.rv_instr.specs.declared.ops.BranchOp.TheVariants.{Bne}
use Rattle.rv_instr.specs.declared.ops.CapImmOp.TheVariants.{Cincoffsetimm}
use Rattle.rv_instr.specs.declared.ops.ImmOp.TheVariants.{Addi}
use Rattle.purecap_abi.specs.Words.{moved_code}
use Rattle.select_words.specs.Zeroing.{stores_at, zero_loop, Zeroes, Round}
use Rattle.rv_emit.specs.Growing.{Size, Puts, IsWordNumber}
use Rattle.rv_emit.specs.Leading.{IsHop, IsLedTo}
use Rattle.rv_emit.proofs.Landed.{back_over}

-- ---- numbers

extended_pos : (n : ℕ) → n < 2 ^ 31 → extended (pos n) ≡ n
unfolding kept_of
extended_pos n h = omega (arith, h)

-- one in a register
pub number_put : (k r n : ℕ) (v w : ℤ) (old new : Size) → r ≡ k → 0 < k → n < 2 ^ 31 → w ≡ v → (n < 2 ^ 31 → v ≡ pos n)
    → (0 < r → Puts (IsWordNumber r (extended w)) old new) → Puts (IsWordNumber k n) old new
number_put k r n v w old new e above lt same fits p =
    let is : extended w ≡ n = ap extended (same ∙ fits lt) ∙ extended_pos n lt in
    subst (λ y. Puts (IsWordNumber k y) old new) is
    (subst (λ y. Puts (IsWordNumber y (extended w)) old new) e (p (omega (arith, e, above))))

-- a small number as 32 bits keep it
pub small_again : (n m : ℕ) → m ≡ n → n < 2048 → to_z w32 m ≡ pos n
small_again n m e lt = subst (λ x. to_z w32 x ≡ pos n) (sym e) (small n lt)
  where
    small : (n : ℕ) → n < 2048 → to_z w32 n ≡ pos n
    small n lt = omega (arith, ints, lt)

-- ---- zeros

stores_more : (at k : ℕ) → stores_at at k ++ Store Csc 0 2 (pos (at + 16 * k)) ∷ [] ≡ stores_at at (suc k)
stores_more at zero = ap (λ n. Store Csc 0 2 (pos n) ∷ []) (omega arith)
stores_more at (suc k) =
    let same : at + 16 * suc k ≡ (at + 16) + 16 * k = omega arith in
    ap (λ n. Store Csc 0 2 (pos at) ∷ (stores_at (at + 16) k ++ Store Csc 0 2 (pos n) ∷ [])) same
    ∙ ap (λ ws. Store Csc 0 2 (pos at) ∷ ws) (stores_more (at + 16) k)

-- one more
pub store_next : (at k : ℕ) (t0 old new : List Instr) → old ≡ t0 ++ stores_at at k
    → new ≡ old ++ Store Csc 0 2 (pos (at + 16 * k)) ∷ [] → new ≡ t0 ++ stores_at at (k + 1)
store_next at k t0 old new e f =
    let next : suc k ≡ k + 1 = omega arith in
    f ∙ ap (λ z. z ++ Store Csc 0 2 (pos (at + 16 * k)) ∷ []) e
    ∙ append_assoc t0 (stores_at at k) (Store Csc 0 2 (pos (at + 16 * k)) ∷ [])
    ∙ ap (λ z. t0 ++ z) (stores_more at k ∙ ap (stores_at at) next)

-- the words of the loop, but for the branch
abbrev pub zero_body : List Instr
zero_body = Store Csc 0 28 (pos 0) ∷ CapImm Cincoffsetimm 28 28 (pos 16) ∷ Imm Addi 29 29 (negsuc 0) ∷ []

pub round_put : (at parts : ℕ) (old moved numbered new : Size) (body : List Instr) (top left right : ℕ) → left ≡ 28
    → right ≡ 29 → moved.text ≡ old.text ++ moved_code left 2 at → Puts (IsWordNumber 29 parts) moved numbered
    → top ≡ length numbered.text → body ≡ numbered.text ++ zero_body
    → IsLedTo (body ++ Branch Bne right 0 (pos 0) ∷ []) new.text (length body) top → 0 < parts
    → Puts (Zeroes at parts) old new
round_put at parts old moved numbered new body top left right is same m n e b l some =
    let front = moved_code 28 2 at in
    let branch = Branch Bne 29 0 (pos 0) in
    let led = subst (λ r. IsLedTo (body ++ Branch Bne r 0 (pos 0) ∷ []) new.text (length body) top) same l in
    let long : IsHop (length numbered.text + 3) (length numbered.text) (negsuc 11) = omega (arith, ints) in
    let whole = back_over numbered.text zero_body body new.text branch top (negsuc 11) b e led (omega arith) long in
    let there = m ∙ ap (λ r. old.text ++ moved_code r 2 at) is in
    record {
      added = front ++ (n.added ++ zero_loop);
      is = whole ∙ ap (λ z. z ++ zero_loop) (n.is ∙ ap (λ z. z ++ n.added) there)
          ∙ append_assoc (old.text ++ front) n.added zero_loop ∙ append_assoc old.text front (n.added ++ zero_loop);
      are = Round n.added n.are.makes n.are.few some refl;
    }
