-- Which constants are kept.
use Rattle.std.proofs.Common.{◌≡◌, ℕ, ◌-◌, ◌^◌, ◌<◌, Bool, true, false, refl, ap, ◌∙◌, arith}
use Rattle.std.specs.Prelude.{◌==◌, pos}
use Rattle.std.proofs.lemmas.Bool.Decides.{nat_tests}
use Rattle.ck_int.specs.declared.kinds.IntKind.{IntKind}
use Rattle.ck_int.specs.declared.kinds.IntKind.TheVariants as int
use Rattle.ck_int.specs.Kinds.{IsKept, wrapped, reduced, kept_of}
use Rattle.cheri_c_sem.specs.Compatible.{kind_number, same_bool}
use Rattle.tac_ir.specs.Costs.{number_cost}
use Rattle.tac_ir.specs.Effects.{kind_of}
use Rattle.tac_ir.specs.WellFormed.{constant_fits, same_kind}
use Rattle.tac_ir.specs.declared.code.TacKind.{TacKind}
use Rattle.tac_ir.specs.declared.code.TacKind.TheVariants as kind
use Rattle.tac_emit.specs.declared.emitter.Emitter.{Emitter}
use Rattle.tac_emit.specs.Emitted.{IsWide, CountFits, Grown}
use Rattle.tac_lower.specs.Operands.{wide_of}
use Rattle.tac_emit.proofs.Wells.{kept, kept_int}

same_as : (m n : ℕ) → m ≡ n → (m == n) ≡ true
same_as m n e = grind (arith, nat_tests)

pub kept_fits : (k : IntKind) (v : ℕ) → IsKept k v → constant_fits (kind.Int k) v ≡ true
kept_fits k v h = same_as (wrapped k (pos v)) v h.kept

-- each kind has 0
pub zero_fits : (k : TacKind) → constant_fits k 0 ≡ true
unfolding wrapped reduced kept_of
zero_fits (kind.Cap s) = refl
zero_fits (kind.Int int.Bool) = refl
zero_fits (kind.Int int.I8) = refl
zero_fits (kind.Int int.U8) = refl
zero_fits (kind.Int int.I16) = refl
zero_fits (kind.Int int.U16) = refl
zero_fits (kind.Int int.I32) = refl
zero_fits (kind.Int int.U32) = refl
zero_fits (kind.Int int.I64) = refl
zero_fits (kind.Int int.U64) = refl

-- and 1
pub one_fits : (k : TacKind) → constant_fits k 1 ≡ true
unfolding wrapped reduced kept_of
one_fits (kind.Cap s) = refl
one_fits (kind.Int int.Bool) = refl
one_fits (kind.Int int.I8) = refl
one_fits (kind.Int int.U8) = refl
one_fits (kind.Int int.I16) = refl
one_fits (kind.Int int.U16) = refl
one_fits (kind.Int int.I32) = refl
one_fits (kind.Int int.U32) = refl
one_fits (kind.Int int.I64) = refl
one_fits (kind.Int int.U64) = refl

-- the kinds of 64 bits have each number of 64 bits
wide_kept : (k : IntKind) (n : ℕ) → IsWide (kind.Int k) → n < 2 ^ 64 → wrapped k (pos n) ≡ n
unfolding wrapped reduced kept_of
wide_kept int.U64 n w h = omega arith
wide_kept int.I64 n w h = grind (arith, nat_tests)
wide_kept k n w h = absurd w

pub wide_fits : (k : IntKind) (n : ℕ) → IsWide (kind.Int k) → n < 2 ^ 64 → constant_fits (kind.Int k) n ≡ true
wide_fits k n w h = same_as (wrapped k (pos n)) n (wide_kept k n w h)

pub address_fits : (s : Bool) (n : ℕ) → constant_fits (kind.Cap s) n ≡ true
address_fits s n = refl

-- ---- counts

pub wide_is : (k : TacKind) → IsWide (kind.Int (wide_of k))
wide_is (kind.Int int.I8) = tt
wide_is (kind.Int int.I16) = tt
wide_is (kind.Int int.I32) = tt
wide_is (kind.Int int.I64) = tt
wide_is (kind.Int int.Bool) = tt
wide_is (kind.Int int.U8) = tt
wide_is (kind.Int int.U16) = tt
wide_is (kind.Int int.U32) = tt
wide_is (kind.Int int.U64) = tt
wide_is (kind.Cap s) = tt

pub kept_count : (a b : Emitter) (shift : Bool) (k : IntKind) (t : ℕ) → CountFits a shift k t → Grown a b →
    CountFits b shift k t
kept_count a b true k t h g = kept_int a b t h g
kept_count a b false k t h g = kept a b t (kind.Int k) h g

number_same : (j k : IntKind) → (kind_number j == kind_number k) ≡ true → j ≡ k
number_same int.Bool int.Bool h = refl
number_same int.I8 int.I8 h = refl
number_same int.U8 int.U8 h = refl
number_same int.I16 int.I16 h = refl
number_same int.U16 int.U16 h = refl
number_same int.I32 int.I32 h = refl
number_same int.U32 int.U32 h = refl
number_same int.I64 int.I64 h = refl
number_same int.U64 int.U64 h = refl
number_same j k h = absurd cc

bool_same : (a b : Bool) → same_bool a b ≡ true → a ≡ b
bool_same true true h = refl
bool_same false false h = refl
bool_same a b h = absurd cc

pub kinds_agree : (j k : TacKind) → same_kind (kind_of j) (kind_of k) ≡ true → j ≡ k
kinds_agree (kind.Int j) (kind.Int k) h = ap kind.Int (number_same j k h)
kinds_agree (kind.Cap s) (kind.Cap t) h = ap kind.Cap (bool_same s t h)
kinds_agree j k h = absurd cc

-- all bits of 64 are a number that is written in one word
pub ones_short : {k : IntKind} {v : ℕ} → k ≡ int.U64 → v ≡ wrapped k (pos (2 ^ 64 - 1)) → number_cost v ≡ 1
unfolding wrapped reduced kept_of
ones_short e h = ap number_cost (h ∙ ap (λ z. wrapped z (pos (2 ^ 64 - 1))) e)
