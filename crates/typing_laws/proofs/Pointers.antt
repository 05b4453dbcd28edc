-- Types that go by a pointer, and types as they are run.
use Rattle.std.proofs.Common.{◌≡◌, ℕ, ◌+◌, Bool, true, false, refl, sym, ap}
use Rattle.std.specs.Prelude.{if◌then◌else◌}
use Rattle.std.proofs.lemmas.Bool.{false≢true, and_parts, and_from}
use Rattle.c_tree.specs.Types.{Ty, Void, Int, Cap, Pointer, Array, Tagged, Function, Const, Tys, no_types, also, bare}
use Rattle.c_tree.specs.Types.{is_scalar, is_tagged, agree, all_agree, count}
use Rattle.c_tree.specs.Passed.{by_pointer, passed, all_passed}

pub pointer_stays : (t : Ty) → by_pointer t ≡ true → passed t ≡ t
pointer_stays (Tagged n) e = refl
pointer_stays (Const (Tagged n)) e = refl
pointer_stays t e = absurd (false≢true e)

-- ---- functions

abbrev pub passed_result : Ty → Ty
passed_result r = (if by_pointer r then Void else passed r)

abbrev pub passed_takes : Ty → Tys → Tys
passed_takes r ps = (if by_pointer r then also (Pointer (bare r)) (all_passed ps) else all_passed ps)

abbrev pub passed_taken : Ty → Ty
passed_taken t = (if by_pointer t then Pointer (bare t) else passed t)

pub passed_function : (r : Ty) (ps : Tys) → passed (Function r ps) ≡ Function (passed_result r) (passed_takes r ps)
passed_function r ps = by (by_pointer r)
  where
    by : (b : Bool) → (if b then Function Void (also (Pointer (bare r)) (all_passed ps))
        else Function (passed r) (all_passed ps))
        ≡ Function (if b then Void else passed r) (if b then also (Pointer (bare r)) (all_passed ps) else all_passed ps)
    by true = refl
    by false = refl

pub count_passed : (ps : Tys) → count (all_passed ps) ≡ count ps
count_passed no_types = refl
count_passed (also t ts) = ap (λ n. n + 1) (count_passed ts)

-- ---- scalars

scalar_under : (t : Ty) → is_scalar (passed t) ≡ is_scalar t
scalar_under (Function r ps) = ap is_scalar (passed_function r ps)
scalar_under t = refl

pub bare_scalar_passed : (t : Ty) → is_scalar (bare (passed t)) ≡ is_scalar (bare t)
bare_scalar_passed (Function r ps) = ap (λ t. is_scalar (bare t)) (passed_function r ps)
bare_scalar_passed (Const t) = scalar_under t
bare_scalar_passed t = refl

-- ---- types that agree up to lengths

module _ (f : ℕ → ℕ → Bool) where
  pub bare_agrees : (s t : Ty) → agree f s t ≡ true → agree f (bare s) (bare t) ≡ true
  bare_agrees Void Void e = e
  bare_agrees (Int j m) (Int k n) e = e
  bare_agrees (Cap a) (Cap b) e = e
  bare_agrees (Pointer s) (Pointer t) e = e
  bare_agrees (Array s m) (Array t n) e = e
  bare_agrees (Tagged m) (Tagged n) e = e
  bare_agrees (Function r ps) (Function q qs) e = e
  bare_agrees (Const s) (Const t) e = e
  bare_agrees s t e = absurd (false≢true e)

  pub tagged_agrees : (s t : Ty) → agree f s t ≡ true → is_tagged s ≡ is_tagged t
  tagged_agrees Void Void e = refl
  tagged_agrees (Int j m) (Int k n) e = refl
  tagged_agrees (Cap a) (Cap b) e = refl
  tagged_agrees (Pointer s) (Pointer t) e = refl
  tagged_agrees (Array s m) (Array t n) e = refl
  tagged_agrees (Tagged m) (Tagged n) e = refl
  tagged_agrees (Function r ps) (Function q qs) e = refl
  tagged_agrees (Const s) (Const t) e = refl
  tagged_agrees s t e = absurd (false≢true e)

  pub pointer_agrees : (s t : Ty) → agree f s t ≡ true → by_pointer s ≡ by_pointer t
  pointer_agrees s t e = tagged_agrees (bare s) (bare t) (bare_agrees s t e)

  -- by what goes by a pointer
  taken_agrees : (s t : Ty) (b c : Bool) → c ≡ b → agree f s t ≡ true → agree f (passed s) (passed t) ≡ true →
      agree f (if c then Pointer (bare s) else passed s) (if b then Pointer (bare t) else passed t) ≡ true
  taken_agrees s t true true i e h = bare_agrees s t e
  taken_agrees s t false false i e h = h
  taken_agrees s t true false i e h = absurd (false≢true i)
  taken_agrees s t false true i e h = absurd (false≢true (sym i))

  function_agrees : (r q : Ty) (ps qs : Tys) (b c : Bool) → c ≡ b → agree f r q ≡ true →
      agree f (passed r) (passed q) ≡ true → all_agree f (all_passed ps) (all_passed qs) ≡ true →
      agree f (if c then Function Void (also (Pointer (bare r)) (all_passed ps))
      else Function (passed r) (all_passed ps))
      (if b then Function Void (also (Pointer (bare q)) (all_passed qs)) else Function (passed q) (all_passed qs))
      ≡ true
  function_agrees r q ps qs true true i e h k =
      and_from (agree f (bare r) (bare q)) (all_agree f (all_passed ps) (all_passed qs)) (bare_agrees r q e) k
  function_agrees r q ps qs false false i e h k =
      and_from (agree f (passed r) (passed q)) (all_agree f (all_passed ps) (all_passed qs)) h k
  function_agrees r q ps qs true false i e h k = absurd (false≢true i)
  function_agrees r q ps qs false true i e h k = absurd (false≢true (sym i))

  mutual
    pub passed_agree : (s t : Ty) → agree f s t ≡ true → agree f (passed s) (passed t) ≡ true
    passed_agree Void Void e = refl
    passed_agree (Int j m) (Int k n) e = e
    passed_agree (Cap a) (Cap b) e = e
    passed_agree (Pointer s) (Pointer t) e = passed_agree s t e
    passed_agree (Array s m) (Array t n) e =
        let p = and_parts (agree f s t) (f m n) e in
        and_from (agree f (passed s) (passed t)) (f m n) (passed_agree s t p.0) p.1
    passed_agree (Tagged m) (Tagged n) e = e
    passed_agree (Function r ps) (Function q qs) e =
        let p = and_parts (agree f r q) (all_agree f ps qs) e in
        function_agrees r q ps qs (by_pointer q) (by_pointer r) (pointer_agrees r q p.0) p.0 (passed_agree r q p.0)
        (all_passed_agree ps qs p.1)
    passed_agree (Const s) (Const t) e = passed_agree s t e
    passed_agree s t e = absurd (false≢true e)

    pub all_passed_agree : (ps qs : Tys) → all_agree f ps qs ≡ true → all_agree f (all_passed ps) (all_passed qs) ≡ true
    all_passed_agree no_types no_types e = refl
    all_passed_agree (also s ss) (also t ts) e =
        let p = and_parts (agree f s t) (all_agree f ss ts) e in
        and_from (agree f (passed_taken s) (passed_taken t)) (all_agree f (all_passed ss) (all_passed ts))
        (taken_agrees s t (by_pointer t) (by_pointer s) (pointer_agrees s t p.0) p.0 (passed_agree s t p.0))
        (all_passed_agree ss ts p.1)
    all_passed_agree ss ts e = absurd (false≢true e)
