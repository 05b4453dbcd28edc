-- What is appended for an allocation has its form.
use Rattle.std.proofs.Common.{◌≡◌, ℕ, ◌+◌, ◌*◌, ◌≤◌, pos, List, [], ◌∷◌, ◌++◌, length, Bool, true, false}
use Rattle.std.proofs.Common.{sym, ap, ◌∙◌, append_assoc, arith, nat_lt, if◌then◌else◌}
use Rattle.std.proofs.lemmas.List.{length-append}
use Rattle.rv_instr.specs.declared.instr.Instr.{Instr}
use Rattle.rv_instr.specs.declared.instr.Instr.TheVariants.{CapGet, Branch, Imm, Cjal}
use Rattle.rv_instr.specs.declared.ops.BranchOp.TheVariants.{Bltu}
use Rattle.rv_instr.specs.declared.ops.CapGetOp.TheVariants.{Cgetlen}
use Rattle.rv_instr.specs.declared.ops.ImmOp.TheVariants.{Addi}
use Rattle.purecap_abi.specs.Words.{load_code, store_code}
use Rattle.select_words.specs.Heap.{rounds, places, takes, gives_null, malloc_code}
use Rattle.rv_memory.specs.Heap.{measured}
use Rattle.rv_emit.specs.Leading.{IsLedTo}
use Rattle.rv_emit.proofs.Appended.{more}
use Rattle.rv_emit.proofs.Landed.{over_words}

either_few : (c : Bool) (xs ys : List Instr) → length xs ≤ 3 → length ys ≤ 3 → length (if c then xs else ys) ≤ 3
either_few true xs ys p q = p
either_few false xs ys p q = q

module _ (heap : ℕ) (t0 t1 t2 t3 t4 t5 t6 t7 t8 t9 t10 t11 t12 t13 : List Instr) (longer full done : ℕ) where
  abbrev load : List Instr
  load = load_code 28 3 heap 28

  abbrev back : List Instr
  back = store_code 28 3 heap 31

  back_few : length back ≤ 3
  back_few = either_few (nat_lt heap 2048) _ _ (omega arith) (omega arith)

  abbrev no_jump : Instr
  no_jump = Cjal 0 (pos 0)

  abbrev first : ℕ → Instr
  first n = Branch Bltu 29 10 (pos n)

  abbrev second : ℕ → Instr
  second n = Branch Bltu 30 10 (pos n)

  -- between the branches, and behind the second
  abbrev middle : List Instr
  middle = rounds ++ (places ++ measured)

  abbrev later : List Instr
  later = takes ++ (back ++ no_jump ∷ [])

  -- all of it, by where the branches lead
  abbrev whole : (x y : ℕ) → List Instr
  whole x y = t0 ++ (load ++ (CapGet Cgetlen 29 28 ∷ first x
      ∷ (middle ++ (second y ∷ (takes ++ (back ++ gives_null))))))

  module _ (e1 : t1 ≡ t0 ++ load) (e2 : t2 ≡ t1 ++ CapGet Cgetlen 29 28 ∷ []) (at1 : longer ≡ length t2)
      (e3 : t3 ≡ t2 ++ first 0 ∷ []) (e4 : t4 ≡ t3 ++ rounds) (e5 : t5 ≡ t4 ++ places) (e6 : t6 ≡ t5 ++ measured)
      (at2 : full ≡ length t6) (e7 : t7 ≡ t6 ++ second 0 ∷ []) (e8 : t8 ≡ t7 ++ (takes ++ back)) where
    to_second : t6 ≡ t2 ++ (first 0 ∷ middle)
    to_second = more t2 (first 0 ∷ (rounds ++ places)) measured t5 t6
        (more t2 (first 0 ∷ rounds) places t4 t5 (more t2 (first 0 ∷ []) rounds t3 t4 e3 e4) e5) e6

    to_back : t8 ≡ t2 ++ (first 0 ∷ (middle ++ (second 0 ∷ (takes ++ back))))
    to_back = more t2 (first 0 ∷ (middle ++ second 0 ∷ [])) (takes ++ back) t7 t8
        (more t2 (first 0 ∷ middle) (second 0 ∷ []) t6 t7 to_second e7) e8

    module _ (at3 : done ≡ length t8) (e9 : t9 ≡ t8 ++ no_jump ∷ []) (l1 : IsLedTo t9 t10 longer (length t9))
        (l2 : IsLedTo t10 t11 full (length t10)) (e12 : t12 ≡ t11 ++ Imm Addi 10 0 (pos 0) ∷ [])
        (l3 : IsLedTo t12 t13 done (length t12)) where
      to_jump : t9 ≡ t2 ++ (first 0 ∷ (middle ++ (second 0 ∷ later)))
      to_jump = more t2 (first 0 ∷ (middle ++ (second 0 ∷ (takes ++ back)))) (no_jump ∷ []) t8 t9 to_back e9

      abbrev n1 : ℕ
      n1 = 4 * (length (middle ++ (second 0 ∷ later)) + 1)

      abbrev n2 : ℕ
      n2 = 4 * (length later + 1)

      tail : length (back ++ no_jump ∷ []) ≡ length back + 1
      tail = length-append back (no_jump ∷ [])

      one : t10 ≡ t2 ++ (first n1 ∷ (middle ++ (second 0 ∷ later)))
      one = over_words t9 t2 (middle ++ (second 0 ∷ later)) t10 (first 0) longer to_jump at1 l1
          (let f = back_few in omega (arith, tail, f))

      abbrev front : List Instr
      front = t2 ++ first n1 ∷ middle

      front_long : full ≡ length front
      front_long = at2 ∙ ap length to_second ∙ length-append t2 (first 0 ∷ middle)
          ∙ sym (length-append t2 (first n1 ∷ middle))

      two : t11 ≡ front ++ (second n2 ∷ later)
      two = over_words t10 front later t11 (second 0) full
          (one ∙ sym (append_assoc t2 (first n1 ∷ middle) (second 0 ∷ later))) front_long l2
          (let f = back_few in omega (arith, tail, f))

      abbrev behind : List Instr
      behind = front ++ (second n2 ∷ (takes ++ back))

      behind_long : done ≡ length behind
      behind_long =
          let a = length-append t2 (first 0 ∷ (middle ++ (second 0 ∷ (takes ++ back)))) in
          let b = length-append t2 (first n1 ∷ middle) in
          let c = length-append front (second n2 ∷ (takes ++ back)) in
          let d = ap length to_back in
          omega (arith, at3, a, b, c, d)

      three : t13 ≡ behind ++ gives_null
      three = over_words t12 behind (Imm Addi 10 0 (pos 0) ∷ []) t13 no_jump done
          (more behind (no_jump ∷ []) (Imm Addi 10 0 (pos 0) ∷ []) t11 t12
          (two ∙ sym (append_assoc front (second n2 ∷ (takes ++ back)) (no_jump ∷ []))) e12) behind_long l3
          (omega arith)

      there : t2 ≡ t0 ++ (load ++ CapGet Cgetlen 29 28 ∷ [])
      there = more t0 load (CapGet Cgetlen 29 28 ∷ []) t1 t2 e1 e2

      gathered : behind ++ gives_null ≡ whole n1 n2
      gathered =
          let rest = second n2 ∷ (takes ++ (back ++ gives_null)) in
          append_assoc front (second n2 ∷ (takes ++ back)) gives_null
          ∙ append_assoc t2 (first n1 ∷ middle) rest
          ∙ ap (λ z. z ++ (first n1 ∷ (middle ++ rest))) there
          ∙ append_assoc t0 (load ++ CapGet Cgetlen 29 28 ∷ []) (first n1 ∷ (middle ++ rest))
          ∙ ap (λ z. t0 ++ z) (append_assoc load (CapGet Cgetlen 29 28 ∷ []) (first n1 ∷ (middle ++ rest)))

      first_leads : n1 ≡ 4 * length back + 68
      first_leads = omega (arith, tail)

      second_leads : n2 ≡ 4 * length back + 24
      second_leads = omega (arith, tail)

      pub allocated : t13 ≡ t0 ++ malloc_code heap
      allocated = three ∙ gathered ∙ ap (λ x. whole x n2) first_leads ∙ ap (whole (4 * length back + 68)) second_leads
