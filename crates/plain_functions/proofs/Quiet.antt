-- The words of an instruction that needs no memory, with homes in registers, touch none.
use Rattle.std.proofs.Common.{◌≡◌, ℕ, ◌+◌, ◌≤◌, ℤ, Bool, true, false, List, [], ◌∷◌, ◌++◌, Some, refl, sym, ap}
use Rattle.std.proofs.Common.{◌∙◌, subst, arith, cond, if◌then◌else◌}
use Rattle.std.specs.List.{All}
use Rattle.std.proofs.lemmas.List.Sums.{sum_by-append}
use Rattle.std.proofs.lemmas.Option.{same_Some, slice_get_within, get_or_from_slice_get}
use Rattle.ck_int.specs.declared.kinds.CmpOp.{CmpOp}
use Rattle.ck_int.specs.declared.kinds.CmpOp.TheVariants as test
use Rattle.ck_int.specs.declared.kinds.IntKind.{IntKind}
use Rattle.ck_int.specs.declared.kinds.IntKind.TheVariants as int
use Rattle.ck_int.specs.declared.kinds.IntOp.{IntOp}
use Rattle.purecap_abi.specs.Ends.{is_store}
use Rattle.purecap_abi.specs.Numbers.{IsNumberWord}
use Rattle.reg_alloc.specs.Placed.{IsRegister}
use Rattle.reg_alloc.specs.declared.places.Home.TheVariants.{Slot}
use Rattle.rv_instr.specs.declared.instr.Instr.{Instr}
use Rattle.rv_instr.specs.declared.instr.Instr.TheVariants.{Upper, Imm, Shift, CapGet}
use Rattle.rv_instr.specs.declared.ops.UpperOp.TheVariants.{Lui}
use Rattle.rv_instr.specs.declared.ops.ImmOp.TheVariants.{Addi, Addiw}
use Rattle.rv_instr.specs.declared.ops.ShiftOp.TheVariants.{Slli}
use Rattle.rv_instr.specs.declared.ops.CapGetOp.TheVariants.{Cmove}
use Rattle.select_words.specs.Emitted as emitted
use Rattle.select_words.specs.Emitted.{IsSpilled, Operand, Keep}
use Rattle.select_words.specs.Entries.{IsMoveTo, AreMovesTo}
use Rattle.select_words.specs.Forms.{Makes, OfOne, OfTwo, Other}
use Rattle.select_words.specs.Jumps.{BranchWords}
use Rattle.select_words.specs.Numbers.{AreNumberWords}
use Rattle.select_words.specs.Operations as operations
use Rattle.select_words.specs.Operations.{IntegerWords, ComparisonWords, ConversionBy, CopiedOr, compare_code}
use Rattle.select_words.specs.Operations.{compare_number, compare_zero, compares_signed, finish_code, is_exact}
use Rattle.select_words.specs.Operations.{is_widening, kept_code, reduce_code}
use Rattle.select_words.specs.Selecting.{Selecting}
use Rattle.select_words.specs.Services.{Argument}
use Rattle.select_words.specs.Words as words
use Rattle.select_words.specs.Words.{Bring, Constant, Copied}
use Rattle.tac_ir.specs.declared.code.TacKind.{TacKind}
use Rattle.tac_ir.specs.declared.code.TacKind.TheVariants as kind
use Rattle.plain_functions.specs.Stretches.{is_load, loads_in, stores_in}

-- ---- words

abbrev pub is_quiet : Instr → Bool
is_quiet i = if is_store i then false else if is_load i then false else true

abbrev pub quiet : List Instr → Bool
quiet [] = true
quiet (i ∷ is) = if is_quiet i then quiet is else false

pub quiet_both : (xs ys : List Instr) → quiet xs ≡ true → quiet ys ≡ true → quiet (xs ++ ys) ≡ true
quiet_both [] ys h k = k
quiet_both (x ∷ xs) ys h k = by (is_quiet x) h (λ g. quiet_both xs ys g k)
  where
    by : (b : Bool) → (if b then quiet xs else false) ≡ true → (quiet xs ≡ true → quiet (xs ++ ys) ≡ true)
        → (if b then quiet (xs ++ ys) else false) ≡ true
    by true h more = more h
    by false h more = absurd cc

-- words that are these two parts
pub quiet_parts : (ws xs ys : List Instr) → ws ≡ xs ++ ys → quiet xs ≡ true → quiet ys ≡ true → quiet ws ≡ true
quiet_parts ws xs ys e h k = ap quiet e ∙ quiet_both xs ys h k

-- they store and load so often at most
pub record Touches (stores loads : ℕ) (ws : List Instr) : Type 0 where
  pub stored : stores_in ws ≤ stores
  pub loaded : loads_in ws ≤ loads

pub touch_both : (a b c d m n : ℕ) (xs ys : List Instr) → a + c ≤ m → b + d ≤ n → Touches a b xs → Touches c d ys
    → Touches m n (xs ++ ys)
touch_both a b c d m n xs ys p q h k =
    let s : stores_in (xs ++ ys) ≡ stores_in xs + stores_in ys = sum_by-append (λ i. cond (is_store i) 1 0) xs ys in
    let l : loads_in (xs ++ ys) ≡ loads_in xs + loads_in ys = sum_by-append (λ i. cond (is_load i) 1 0) xs ys in
    let hs = h.stored in
    let ks = k.stored in
    let hl = h.loaded in
    let kl = k.loaded in
    record { stored = omega (arith, s, hs, ks, p); loaded = omega (arith, l, hl, kl, q) }

-- of words that are two parts
pub touch_parts : (a b c d m n : ℕ) (ws xs ys : List Instr) → ws ≡ xs ++ ys → a + c ≤ m → b + d ≤ n
    → Touches a b xs → Touches c d ys → Touches m n ws
touch_parts a b c d m n ws xs ys e p q h k =
    subst (Touches m n) (sym e) (touch_both a b c d m n xs ys p q h k)

pub touch_more : (a b m n : ℕ) (ws : List Instr) → a ≤ m → b ≤ n → Touches a b ws → Touches m n ws
touch_more a b m n ws p q h =
    let s = h.stored in let l = h.loaded in record { stored = omega (arith, p, s); loaded = omega (arith, q, l) }

pub touch_none : Touches 0 0 []
touch_none = record { stored = omega arith; loaded = omega arith }

quiet_word : (i : Instr) → is_quiet i ≡ true → Touches 0 0 (i ∷ [])
quiet_word i h = by (is_store i) (is_load i) refl refl h
  where
    by : (s l : Bool) → is_store i ≡ s → is_load i ≡ l → (if s then false else if l then false else true) ≡ true
        → Touches 0 0 (i ∷ [])
    by true l e f h = absurd cc
    by false true e f h = absurd cc
    by false false e f h =
        let s : stores_in (i ∷ []) ≡ 0 = ap (λ b. 0 + (if b then 1 else 0)) e in
        let l : loads_in (i ∷ []) ≡ 0 = ap (λ b. 0 + (if b then 1 else 0)) f in
        record { stored = omega (arith, s); loaded = omega (arith, l) }

pub quiet_touches : (ws : List Instr) → quiet ws ≡ true → Touches 0 0 ws
quiet_touches [] h = touch_none
quiet_touches (i ∷ is) h = by (is_quiet i) refl h (λ g. quiet_touches is g)
  where
    by : (b : Bool) → is_quiet i ≡ b → (if b then quiet is else false) ≡ true → (quiet is ≡ true → Touches 0 0 is)
        → Touches 0 0 (i ∷ is)
    by true e h more = touch_both 0 0 0 0 0 0 (i ∷ []) is (omega arith) (omega arith) (quiet_word i e) (more h)
    by false e h more = absurd cc

-- ---- words of numbers and of moves

number_word : (to : ℕ) (i : Instr) → IsNumberWord to i → is_quiet i ≡ true
number_word to (Upper Lui r field) h = refl
number_word to (Imm Addi r from z) h = refl
number_word to (Imm Addiw r from z) h = refl
number_word to (Shift Slli r from n) h = refl
number_word to i h = absurd h

numbers : (to : ℕ) (ws : List Instr) → AreNumberWords to ws → quiet ws ≡ true
numbers to [] h = refl
numbers to (i ∷ is) h = ap (λ b. if b then quiet is else false) (number_word to i h.0) ∙ numbers to is h.1

module _ (Is : ℕ → Type 0) where
  move : (i : Instr) → IsMoveTo Is i → is_quiet i ≡ true
  move (CapGet Cmove to from) h = refl
  move i h = absurd h

  pub moves : (ws : List Instr) → AreMovesTo Is ws → quiet ws ≡ true
  moves [] h = refl
  moves (i ∷ is) h = ap (λ b. if b then quiet is else false) (move i h.0) ∙ moves is h.1

-- ---- words of temps, where all homes are registers

module _ (s : Selecting) (registers : All IsRegister s.homes) where
  pub no_slot : (t at : ℕ) → IsSpilled s t at → ⊥
  no_slot t at h =
      subst IsRegister (get_or_from_slice_get s.homes t (Slot h.slot) (Slot h.slot) h.home)
      (registers t (Slot h.slot) (slice_get_within s.homes t (Slot h.slot) h.home))

  operand : (t scratch r : ℕ) (ws : List Instr) → Operand s t scratch ws r → quiet ws ≡ true
  operand t scratch r ws (emitted.Nothing n e q) = ap quiet e
  operand t scratch r ws (emitted.Made v n m few e) = numbers scratch ws m.own
  operand t scratch r ws (emitted.AtHome i e) = ap quiet e
  operand t scratch r ws (emitted.Loaded at i e q) = absurd (no_slot t at i)

  kept : (t from : ℕ) (ws : List Instr) → Keep s t from ws → quiet ws ≡ true
  kept t from ws (emitted.Needless v n e) = ap quiet e
  kept t from ws (emitted.Stays i e) = ap quiet e
  kept t from ws (emitted.Moved r i d e) = ap quiet e
  kept t from ws (emitted.Stored at i e) = absurd (no_slot t at i)

  brought : (t r : ℕ) (ws : List Instr) → Bring s t r ws → quiet ws ≡ true
  brought t r ws (words.Made v n m few) = numbers r ws m.own
  brought t r ws (words.There i e) = ap quiet e
  brought t r ws (words.Moved q i d e) = ap quiet e
  brought t r ws (words.Loaded at i e) = absurd (no_slot t at i)

  pub argument : (args : List ℕ) (ws : List Instr) → Argument s args ws → quiet ws ≡ true
  argument [] ws e = ap quiet e
  argument (a ∷ more) ws h = brought a 10 ws h

  pub constant : (to value : ℕ) (ws : List Instr) → Constant s to value ws → quiet ws ≡ true
  constant to value ws (words.Needless n e) = ap quiet e
  constant to value ws (words.Built n r t makes keep m few k e) =
      quiet_parts ws makes keep e (numbers r makes m.own) (kept to r keep k)

  pub copied : (to from : ℕ) (ws : List Instr) → Copied s to from ws → quiet ws ≡ true
  copied to from ws (words.Itself q e) = ap quiet e
  copied to from ws (words.Brought r i b) = brought from r ws b
  copied to from ws (words.Kept at i a finds keep o k e) = absurd (no_slot to at i)

  -- words that compute in a register
  makes : (to : ℕ) (Work : (r : ℕ) → List Instr → Type 0) (ws : List Instr) → Makes s to Work ws
      → ((r : ℕ) (us : List Instr) → Work r us → quiet us ≡ true) → quiet ws ≡ true
  makes to Work ws m each = quiet_parts ws m.work m.keep m.are (each m.r m.work m.works) (kept to m.r m.keep m.kept)

  of_one : (to from : ℕ) (Work : (r a : ℕ) → List Instr → Type 0) (ws : List Instr) → OfOne s to from Work ws
      → ((r a : ℕ) (us : List Instr) → Work r a us → quiet us ≡ true) → quiet ws ≡ true
  of_one to from Work ws f each =
      quiet_parts ws f.finds f.then_on f.are (operand from 28 f.a f.finds f.found)
      (makes to (λ r. Work r f.a) f.then_on f.makes (λ r us w. each r f.a us w))

  of_two : (to a b : ℕ) (Work : (r x y : ℕ) → List Instr → Type 0) (ws : List Instr)
      → OfTwo s to a (Other s b) Work ws → ((r x y : ℕ) (us : List Instr) → Work r x y us → quiet us ≡ true)
      → quiet ws ≡ true
  of_two to a b Work ws f each =
      quiet_parts ws f.finds (f.others ++ f.then_on) f.are (operand a 28 f.a f.finds f.found)
      (quiet_both f.others f.then_on (operand b 29 f.b f.others f.second)
      (makes to (λ r. Work r f.a f.b) f.then_on f.makes (λ r us w. each r f.a f.b us w)))

  -- ---- operations on integers

  reduced : (k : IntKind) (r x : ℕ) → quiet (reduce_code k r x) ≡ true
  reduced int.Bool r x = refl
  reduced int.I8 r x = refl
  reduced int.U8 r x = refl
  reduced int.I16 r x = refl
  reduced int.U16 r x = refl
  reduced int.I32 r x = refl
  reduced int.U32 r x = refl
  reduced int.I64 r x = refl
  reduced int.U64 r x = refl

  finished : (k : IntKind) (o : IntOp) (by_number : Bool) (r : ℕ) → quiet (finish_code k o by_number r) ≡ true
  finished k o by_number r = by (is_exact k o by_number)
    where
      by : (b : Bool) → quiet (if b then [] else reduce_code k r r) ≡ true
      by true = refl
      by false = reduced k r r

  pub integer : (o : IntOp) (k : IntKind) (to a b : ℕ) (ws : List Instr) → IntegerWords s o k to a b ws
      → quiet ws ≡ true
  integer o k to a b ws (operations.Registers f) =
      of_two to a b _ ws f (λ r x y us e. ap quiet e ∙ finished k o false r)
  integer o k to a b ws (operations.WithNumber i n z e h q f) =
      of_one to a _ ws f (λ r x us e. ap quiet e ∙ finished k o false r)
  integer o k to a b ws (operations.NumberWith i n z e h q f) =
      of_one to b _ ws f (λ r x us e. ap quiet e ∙ finished k o false r)
  integer o k to a b ws (operations.LessNumber n z e h q f) =
      of_one to a _ ws f (λ r x us e. ap quiet e ∙ finished k o false r)
  integer o k to a b ws (operations.Shifted n e h f) =
      of_one to a _ ws f (λ r x us e. ap quiet e ∙ finished k o true r)
  integer o k to a b ws (operations.Times q e w l h f) = of_one to a _ ws f (λ r x us e. ap quiet e)
  integer o k to a b ws (operations.TimesFirst q e w l h f) = of_one to b _ ws f (λ r x us e. ap quiet e)

  -- ---- comparisons

  compared : (o : CmpOp) (signed : Bool) (r x y : ℕ) → quiet (compare_code o signed r x y) ≡ true
  compared test.Lt signed r x y = refl
  compared test.Gt signed r x y = refl
  compared test.Le signed r x y = refl
  compared test.Ge signed r x y = refl
  compared test.Eq signed r x y = refl
  compared test.Ne signed r x y = refl

  with_number : (o : CmpOp) (signed : Bool) (z : ℤ) (r x : ℕ) (us : List Instr)
      → Some us ≡ compare_number o signed z r x → quiet us ≡ true
  with_number test.Lt signed z r x us e = ap quiet (same_Some us _ e)
  with_number test.Ge signed z r x us e = ap quiet (same_Some us _ e)
  with_number test.Eq signed z r x us e = ap quiet (same_Some us _ e)
  with_number test.Ne signed z r x us e = ap quiet (same_Some us _ e)
  with_number test.Gt signed z r x us e = absurd cc
  with_number test.Le signed z r x us e = absurd cc

  with_zero : (o : CmpOp) (r x : ℕ) (us : List Instr) → Some us ≡ compare_zero o r x → quiet us ≡ true
  with_zero test.Eq r x us e = ap quiet (same_Some us _ e)
  with_zero test.Ne r x us e = ap quiet (same_Some us _ e)
  with_zero test.Lt r x us e = absurd cc
  with_zero test.Ge r x us e = absurd cc
  with_zero test.Gt r x us e = absurd cc
  with_zero test.Le r x us e = absurd cc

  pub comparison : (o : CmpOp) (k : TacKind) (to a b : ℕ) (ws : List Instr) → ComparisonWords s o k to a b ws
      → quiet ws ≡ true
  comparison o k to a b ws (operations.Both f) =
      of_two to a b _ ws f (λ r x y us e. ap quiet e ∙ compared o (compares_signed k) r x y)
  comparison o k to a b ws (operations.Number n z h q f) =
      of_one to a _ ws f (λ r x us e. with_number o (compares_signed k) z r x us e)
  comparison o k to a b ws (operations.Zero h f) = of_one to a _ ws f (λ r x us e. with_zero o r x us e)

  -- ---- conversions

  kept_quiet : (k : IntKind) (r x : ℕ) → quiet (kept_code k r x) ≡ true
  kept_quiet int.I64 r x = refl
  kept_quiet int.U64 r x = refl
  kept_quiet k r x = reduced k r x

  reduces : (to from : ℕ) (k : IntKind) (ws : List Instr) → OfOne s to from (operations.Reduces k) ws → quiet ws ≡ true
  reduces to from k ws f = of_one to from _ ws f (λ r x us e. ap quiet e ∙ kept_quiet k r x)

  copied_or : (to from : ℕ) (k : IntKind) (b : Bool) (ws : List Instr) → CopiedOr s to from k b ws → quiet ws ≡ true
  copied_or to from k true ws h = copied to from ws h
  copied_or to from k false ws h = reduces to from k ws h

  pub conversion : (to from : ℕ) (old new : TacKind) (ws : List Instr) → ConversionBy s to from old new ws
      → quiet ws ≡ true
  conversion to from old (kind.Cap signed) ws h = copied to from ws h
  conversion to from (kind.Cap signed) (kind.Int k) ws h = reduces to from k ws h
  conversion to from (kind.Int j) (kind.Int k) ws h = copied_or to from k (is_widening j k) ws h

  -- ---- branches

  pub branched : (on : ℕ) (when : Bool) (z : ℤ) (finds ws : List Instr) → BranchWords s on when z finds ws
      → quiet ws ≡ true
  branched on when z finds ws b = quiet_parts ws finds _ b.are (operand on 28 b.a finds b.found) refl
