use Rattle.std.proofs.Common.{◌≡◌, ℕ, ◌+◌, ◌≤◌, true, false, ◌∷◌, [], ◌++◌, ◌∙◌, subst, sym, ap, arith}
use Rattle.rv_instr.specs.declared.instr.Instr.{Instr}
use Rattle.rv_instr.specs.declared.instr.Instr.TheVariants.{Shift}
use Rattle.rv_instr.specs.declared.ops.ImmOp.TheVariants.{Addi, Addiw}
use Rattle.rv_instr.specs.declared.ops.ShiftOp.TheVariants.{Slli}
use Rattle.purecap_abi.specs.Words.{IsPlainWord, most_words, is_short, is_word, low_code}
use Rattle.purecap_abi.specs.Numbers.{Makes}
use Rattle.purecap_abi.proofs.Ranges.{on_ok, appends_one, appends_then, appends_more, appends_most, low_few, r_upper}
use Rattle.purecap_abi.proofs.Ranges.{r_imm, r_shift, most_short, most_word, most_high}
use Rattle.purecap_abi.proofs.Numbers.{makes_short, makes_word, makes_wide}
use Rattle.purecap_abi.proofs.words.+number.Goals as goal

pub returns-then-is_short-clause-words : goal.returns-then-is_short-clause-words
returns-then-is_short-clause-words t c =
    let a = c.args in
    on_ok c.put.result _ _ c.put.ensures
    (λ e. appends_more 1 (most_words a.value) a.code.now.items c.put.new.code.items
    (appends_one a.code.now.items c.put.new.code.items c.with_low.result e
    (subst (λ (i : Instr). IsPlainWord i) (sym c.with_low.ensures)
    (r_imm Addi a.to 0 a.value c.known.ensures (omega arith))))
    (most_short a.value))

pub returns-then-is_short-clause-value : goal.returns-then-is_short-clause-value
returns-then-is_short-clause-value t c =
    let a = c.args in
    let short : is_short a.value ≡ true = sym c.if-is_short.ensures in
    on_ok c.put.result _ _ c.put.ensures
    (λ e. makes_short a.to a.value a.code.now.items c.put.new.code.items c.ranges.value.fits short
    (e ∙ ap (λ (i : Instr). a.code.now.items ++ i ∷ []) c.with_low.ensures))

pub returns-then-is_word-clause-words : goal.returns-then-is_word-clause-words
returns-then-is_word-clause-words t c =
    let a = c.args in
    let put = c.put-then-is_word in
    let long : is_short a.value ≡ false = sym c.if-is_short.ensures in
    on_ok c.add_low.result _ _ c.add_low.ensures
    (λ e. appends_more 2 (most_words a.value) a.code.now.items c.add_low.new.code.items
    (appends_then 1 1 2 a.code.now.items put.new.code.items c.add_low.new.code.items
    (appends_one a.code.now.items put.new.code.items c.upper.result c.in_ok-put.ensures
    (subst (λ (i : Instr). IsPlainWord i) (sym c.upper.ensures) (r_upper a.to a.value c.known.ensures)))
    (appends_most 1 put.new.code.items c.add_low.new.code.items (low_code Addiw a.to a.value) e
    (low_few Addiw a.to a.value c.known.ensures)) (omega arith))
    (most_word a.value long))

pub returns-then-is_word-clause-value : goal.returns-then-is_word-clause-value
returns-then-is_word-clause-value t c =
    let a = c.args in
    let put = c.put-then-is_word in
    let word : is_word a.value ≡ true = sym c.if-is_word.ensures in
    on_ok c.add_low.result _ _ c.add_low.ensures
    (λ e. makes_word a.to a.value a.code.now.items put.new.code.items c.add_low.new.code.items c.upper.result
    c.ranges.value.fits word c.upper.ensures c.in_ok-put.ensures e)

pub returns-clause-words : goal.returns-clause-words
returns-clause-words t c =
    let a = c.args in
    let long : is_short a.value ≡ false = sym c.if-is_short.ensures in
    let wide : is_word a.value ≡ false = sym c.if-is_word.ensures in
    let most = most_words c.high.result in
    on_ok c.add_low-2.result _ _ c.add_low-2.ensures
    (λ e. appends_more (most + 2) (most_words a.value) a.code.now.items c.add_low-2.new.code.items
    (appends_then (most + 1) 1 (most + 2) a.code.now.items c.put-2.new.code.items c.add_low-2.new.code.items
    (appends_then most 1 (most + 1) a.code.now.items c.number.new.code.items c.put-2.new.code.items
    c.in_ok-number.ensures.words
    (appends_one c.number.new.code.items c.put-2.new.code.items (Shift Slli a.to a.to 12) c.in_ok-put-2.ensures
    (r_shift a.to c.known.ensures))
    (omega arith))
    (appends_most 1 c.put-2.new.code.items c.add_low-2.new.code.items (low_code Addi a.to a.value) e
    (low_few Addi a.to a.value c.known.ensures)) (omega arith))
    (subst (λ (m : ℕ). most_words m + 2 ≤ most_words a.value) (sym c.high.ensures)
    (most_high a.value c.ranges.value.fits long wide)))

pub returns-clause-value : goal.returns-clause-value
returns-clause-value t c =
    let a = c.args in
    on_ok c.add_low-2.result _ _ c.add_low-2.ensures
    (λ e. makes_wide a.to a.value a.code.now.items c.number.new.code.items c.put-2.new.code.items
    c.add_low-2.new.code.items c.ranges.value.fits
    (subst (λ (n : ℕ). Makes a.to n a.code.now.items c.number.new.code.items) c.high.ensures
    c.in_ok-number.ensures.value) c.in_ok-put-2.ensures e)
