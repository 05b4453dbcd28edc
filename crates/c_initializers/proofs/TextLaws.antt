-- Strings that initialize whole objects.
use Rattle.std.proofs.Common.{◌≡◌, ℕ, zero, suc, ◌+◌, ◌-◌, ◌/◌, ◌%◌, ◌^◌, ◌<◌, ◌≤◌, max, Bool, true, false, List, [], ◌∷◌}
use Rattle.std.proofs.Common.{◌++◌, length, get_or, take, fold, Option, Some, None, Result, Ok, Err, refl, sym, ap, ◌∙◌}
use Rattle.std.proofs.Common.{subst, arith}
use Rattle.std.specs.Prelude.{ℤ, pos, ◌==◌, nat_lt, nat_le, if◌then◌else◌}
use Rattle.std.proofs.Math.Nat.{div-one}
use Rattle.std.proofs.lemmas.Bool.{false≢true, eq-eqb, ne_eqb, eqb-true}
use Rattle.std.proofs.lemmas.Bool.Decides.{nat_tests}
use Rattle.std.proofs.lemmas.List.{take_more}
use Rattle.ck_base.specs.declared.positions.Pos.{Pos}
use Rattle.ck_base.specs.declared.refusal.Refusal.{Refusal}
use Rattle.ck_int.specs.declared.kinds.IntKind.{IntKind}
use Rattle.ck_int.specs.declared.kinds.IntKind.TheVariants as kind
use Rattle.ck_int.specs.Kinds.{modulo, reduced, kept_of, wrapped}
use Rattle.ck_int.proofs.Modulo.{modulo-low}
use Rattle.ck_int.proofs.Laws.{modulo-reduced}
use Rattle.c_tree.specs.Types.{Ty, Int, Array}
use Rattle.c_tree.specs.Terms.{Constant, leaf}
use Rattle.c_tree.specs.Constants.{kind_of, constant_of}
use Rattle.c_tree.specs.Readings as meant
use Rattle.c_tree.specs.Scopes.{Aiming, State, Fault, give, some_or, continued, change_static, size, ◌>>=◌, ◌>>◌}
use Rattle.c_tree.specs.Initializers.{byte_slots, element, is_character, takes_string, taken}
use Rattle.c_tree.specs.Statics as statics
use Rattle.c_tree.specs.Statics.{Placed, Start, Number, known_value, start_slots, start_slot, byte_in, byte_at, end_of}
use Rattle.c_tree.specs.Statics.{initial_length, initial_bytes, bytes_from}
use Rattle.c_elaborator.specs.declared.work.Work.{Work}
use Rattle.c_elaborator.specs.Work.{Shows}
use Rattle.c_elaborator.specs.Answers.{Answers, Done, freely, quietly, NothingThere, IsNothing}
use Rattle.c_elaborator.proofs.Sequencing.{answers_at, need_true, also_then, freed, failed, free_law}
use Rattle.c_plain_rules.proofs.ByteLaws.{bytes-are}
use Rattle.c_initializers.specs.Objects.{counted, completes_object, object_complete, fills_object, static_filled}
use Rattle.c_initializers.specs.Texts.{room_for, AreTaken, before_zeros, without_zeros, fills_bytes, fills_text}
use Rattle.c_initializers.proofs.FillLaws.{taken-most, string-refused}
use Rattle.c_initializers.proofs.ObjectLaws.{rest_filled}

-- ---- bytes without the zeros at their end

zero-dropped : (xs : List ℕ) (b : ℕ) → b ≡ 0 → without_zeros (xs ++ b ∷ []) ≡ without_zeros xs
zero-dropped [] b e = ap (λ (z : Bool). if z then [] else b ∷ []) (eq-eqb b 0 e)
zero-dropped (x ∷ xs) b e = ap (before_zeros x) (zero-dropped xs b e)

other-kept : (xs : List ℕ) (b : ℕ) → (b ≡ 0 → ⊥) → without_zeros (xs ++ b ∷ []) ≡ xs ++ b ∷ []
other-kept [] b h = ap (λ (z : Bool). if z then [] else b ∷ []) (ne_eqb b 0 h)
other-kept (x ∷ xs) b h = ap (before_zeros x) (other-kept xs b h) ∙ before xs
  where
    before : (ys : List ℕ) → before_zeros x (ys ++ b ∷ []) ≡ x ∷ (ys ++ b ∷ [])
    before [] = refl
    before (y ∷ ys) = refl

pub one-less : (bs : List ℕ) (n m : ℕ) → n ≡ m + 1 → m < length bs → get_or bs m 0 ≡ 0 →
    without_zeros (take m bs) ≡ without_zeros (take n bs)
one-less bs n m e l z =
    sym (ap (λ k. without_zeros (take k bs)) e ∙ ap without_zeros (take_more bs m 0 l)
    ∙ zero-dropped (take m bs) (get_or bs m 0) z)

pub front-stays : (bs : List ℕ) (n m : ℕ) → n ≡ m + 1 → m < length bs → (get_or bs m 0 ≡ 0 → ⊥) →
    without_zeros (take n bs) ≡ take n bs
front-stays bs n m e l h =
    let f : take n bs ≡ take m bs ++ get_or bs m 0 ∷ [] = ap (λ k. take k bs) e ∙ take_more bs m 0 l in
    ap without_zeros f ∙ other-kept (take m bs) (get_or bs m 0) h ∙ sym f

-- what is dropped is zero, as what stands behind the end
one-same : (b : ℕ) (ws bs : List ℕ) (k : ℕ) → ((j : ℕ) → get_or ws j 0 ≡ get_or bs j 0) →
    get_or (before_zeros b ws) k 0 ≡ get_or (b ∷ bs) k 0
one-same b [] bs k h = by_zero (b == 0) refl k
  where
    by_zero : (z : Bool) → (b == 0) ≡ z → (j : ℕ) → get_or (if z then [] else b ∷ []) j 0 ≡ get_or (b ∷ bs) j 0
    by_zero true e zero = sym (eqb-true b 0 e)
    by_zero true e (suc j) = h j
    by_zero false e zero = refl
    by_zero false e (suc j) = h j
one-same b (c ∷ cs) bs zero h = refl
one-same b (c ∷ cs) bs (suc k) h = h k

all-same : (bs : List ℕ) (k : ℕ) → get_or (without_zeros bs) k 0 ≡ get_or bs k 0
all-same [] k = refl
all-same (b ∷ bs) k = one-same b (without_zeros bs) bs k (all-same bs)

-- ---- a byte as a number

abbrev pub AreBytes : List ℕ → Type 0
AreBytes bs = (k : ℕ) → get_or bs k 0 < 256

front-bytes : (n : ℕ) (bs : List ℕ) (k : ℕ) → AreBytes bs → get_or (take n bs) k 0 < 256
front-bytes zero bs k h = omega arith
front-bytes (suc n) [] k h = omega arith
front-bytes (suc n) (b ∷ bs) zero h = h 0
front-bytes (suc n) (b ∷ bs) (suc k) h = front-bytes n bs k (λ j. h (suc j))

low-same : (b : ℕ) → b < 256 → b % 256 ≡ b
low-same b l = omega arith

low-of : (j : IntKind) (b : ℕ) → modulo (reduced j (pos b)) (2 ^ 8) ≡ modulo (pos b) (2 ^ 8) → b < 256 →
    wrapped j (pos b) % 256 ≡ b
unfolding wrapped kept_of
low-of j b e l = modulo-low (reduced j (pos b)) 8 64 (omega arith) ∙ e ∙ low-same b l

low-byte : (u : Ty) (b : ℕ) → is_character u ≡ true → b < 256 → wrapped (kind_of u) (pos b) % 256 ≡ b
low-byte (Int kind.U8 n) b e l = let w : 1 < 8 = omega arith in low-of kind.U8 b (modulo-reduced kind.U8 (pos b) w) l
low-byte (Int kind.I8 n) b e l = let w : 1 < 8 = omega arith in low-of kind.I8 b (modulo-reduced kind.I8 (pos b) w) l
low-byte (Int _ n) b e l = absurd cc
low-byte _ b e l = absurd cc

zero-number : (u : Ty) → is_character u ≡ true → wrapped (kind_of u) (pos 0) ≡ 0
unfolding wrapped reduced kept_of
zero-number (Int kind.U8 n) e = refl
zero-number (Int kind.I8 n) e = refl
zero-number (Int _ n) e = absurd cc
zero-number _ e = absurd cc

one-byte : (s : State) (u : Ty) → is_character u ≡ true → size s u ≡ 1
one-byte s (Int kind.U8 n) e = refl
one-byte s (Int kind.I8 n) e = refl
one-byte s (Int _ n) e = absurd cc
one-byte s _ e = absurd cc

known-byte : (s : State) (v : ℕ) (u : Ty) (p : Pos) → is_character u ≡ true →
    known_value s (leaf (Constant v) u p) ≡ Some (Number v, [])
unfolding constant_of
known-byte s v (Int k n) p e = refl
known-byte s v _ p e = absurd cc

element-character : (t : Ty) → takes_string t ≡ true → is_character (element t) ≡ true
element-character (Array t n) e = e
element-character _ e = absurd cc

abbrev byte_number : Ty → ℕ → ℕ → Placed
byte_number u at b = record { at = at; width = 1; number = wrapped (kind_of u) (pos b) }

abbrev byte_numbers : Ty → ℕ → List ℕ → List Placed
byte_numbers u at [] = []
byte_numbers u at (b ∷ bs) = byte_number u at b ∷ byte_numbers u (at + 1) bs

-- ---- the values of a string

abbrev after_value : State → meant.Slot → List meant.Slot → Option (Start × List ℤ) →
    Result (statics.Found × State) Fault
after_value s x xs o = (some_or o 134 x.first >>= λ v. start_slots xs >>= λ f. start_slot s x v f) s

abbrev after_rest : State → meant.Slot → Start × List ℤ → Result (statics.Found × State) Fault →
    Result (statics.Found × State) Fault
after_rest s x v r = continued r (λ f. start_slot s x v f)

-- each is known, and asks nothing
text-started : (s : State) (whole : Pos) (u : Ty) (at : ℕ) (bs : List ℕ) → is_character u ≡ true →
    start_slots (byte_slots whole u at bs) s ≡ Ok ((byte_numbers u at bs, []), s)
text-started s whole u at [] e = refl
text-started s whole u at (b ∷ bs) e =
    let v = wrapped (kind_of u) (pos b) in
    let x : meant.Slot = record { at = at; of = u; value = leaf (Constant v) u whole; first = whole } in
    let rest = byte_numbers u (at + 1) bs in
    ap (after_value s x (byte_slots whole u (at + 1) bs)) (known-byte s v u whole e)
    ∙ ap (after_rest s x (Number v, [])) (text-started s whole u (at + 1) bs e)
    ∙ ap (λ (w : ℕ). Ok (((let y : Placed = record { at = at; width = w; number = v } in y) ∷ rest, []), s))
    (one-byte s u e)

-- ---- the bytes that they come to

byte-before : (u : Ty) (b at j acc : ℕ) → j < at → byte_in j acc (byte_number u at b) ≡ acc
byte-before u b at j acc l = let f : nat_le at j ≡ false = grind (arith, nat_tests) in rw f refl

byte-behind : (u : Ty) (b at j acc : ℕ) → at < j → byte_in j acc (byte_number u at b) ≡ acc
byte-behind u b at j acc l =
    let f : nat_le at j ≡ true = grind (arith, nat_tests) in
    let g : nat_lt j (at + 1) ≡ false = grind (arith, nat_tests) in
    rw (f, g) refl

byte-here : (u : Ty) (b at j acc : ℕ) → is_character u ≡ true → b < 256 → j ≡ at →
    byte_in j acc (byte_number u at b) ≡ b
byte-here u b at j acc e l q =
    let f : nat_le at j ≡ true = grind (arith, nat_tests) in
    let g : nat_lt j (at + 1) ≡ true = grind (arith, nat_tests) in
    let d : j - at ≡ 0 = omega arith in
    let n : wrapped (kind_of u) (pos b) / 256 ^ 0 % 256 ≡ b =
    ap (λ m. m % 256) (div-one (wrapped (kind_of u) (pos b))) ∙ low-byte u b e l in
    rw (f, g, d) n

all-before : (u : Ty) (at j acc : ℕ) (bs : List ℕ) → j < at → fold (byte_in j) acc (byte_numbers u at bs) ≡ acc
all-before u at j acc [] l = refl
all-before u at j acc (b ∷ bs) l =
    ap (λ c. fold (byte_in j) c (byte_numbers u (at + 1) bs)) (byte-before u b at j acc l)
    ∙ all-before u (at + 1) j acc bs (omega arith)

byte-there : (u : Ty) (at k j acc : ℕ) (bs : List ℕ) → is_character u ≡ true → AreBytes bs → j ≡ at + k →
    fold (byte_in j) acc (byte_numbers u at bs) ≡ get_or bs k acc
byte-there u at k j acc [] e h q = refl
byte-there u at zero j acc (b ∷ bs) e h q =
    ap (λ c. fold (byte_in j) c (byte_numbers u (at + 1) bs)) (byte-here u b at j acc e (h 0) (omega arith))
    ∙ all-before u (at + 1) j b bs (omega arith)
byte-there u at (suc k) j acc (b ∷ bs) e h q =
    ap (λ c. fold (byte_in j) c (byte_numbers u (at + 1) bs)) (byte-behind u b at j acc (omega arith))
    ∙ byte-there u (at + 1) k j acc bs e (λ i. h (suc i)) (omega arith)

-- ---- where they end

byte-end : (u : Ty) (at b : ℕ) → is_character u ≡ true → b < 256 →
    end_of (byte_number u at b) ≡ (if b == 0 then 0 else at + 1)
byte-end u at b e l = by_zero (b == 0) refl
  where
    by_zero : (z : Bool) → (b == 0) ≡ z → end_of (byte_number u at b) ≡ (if z then 0 else at + 1)
    by_zero true q =
        let v : wrapped (kind_of u) (pos b) ≡ 0 =
        ap (λ n. wrapped (kind_of u) (pos n)) (eqb-true b 0 q) ∙ zero-number u e in
        ap (λ n. end_of (let y : Placed = record { at = at; width = 1; number = n } in y)) v
    by_zero false q =
        let v : (wrapped (kind_of u) (pos b) == 0) ≡ false =
        ne_eqb (wrapped (kind_of u) (pos b)) 0
        (λ w. false≢true (sym q ∙ eq-eqb b 0 (sym (low-byte u b e l) ∙ ap (λ n. n % 256) w))) in
        ap (λ (z : Bool). if z then 0 else at + (if z then 0 else 1)) v

-- the greatest end so far, and that of bytes from a place on
abbrev reached : ℕ → ℕ → List ℕ → ℕ
reached at n [] = n
reached at n (c ∷ cs) = at + length (c ∷ cs)

one-more : (at n m b : ℕ) (ws : List ℕ) → m ≡ (if b == 0 then n else at + 1) →
    reached (at + 1) m ws ≡ reached at n (before_zeros b ws)
one-more at n m b [] e = by_zero (b == 0) refl
  where
    by_zero : (z : Bool) → (b == 0) ≡ z → m ≡ reached at n (if z then [] else b ∷ [])
    by_zero true q = e ∙ ap (λ (z : Bool). if z then n else at + 1) q
    by_zero false q = e ∙ ap (λ (z : Bool). if z then n else at + 1) q
one-more at n m b (c ∷ cs) e = omega arith

later-end : (n at b : ℕ) → n ≤ at → max n (if b == 0 then 0 else at + 1) ≡ (if b == 0 then n else at + 1)
later-end n at b l = by_zero (b == 0)
  where
    by_zero : (z : Bool) → max n (if z then 0 else at + 1) ≡ (if z then n else at + 1)
    by_zero true = omega arith
    by_zero false = omega arith

low-end : (n at b : ℕ) → n ≤ at → (if b == 0 then n else at + 1) ≤ at + 1
low-end n at b l = by_zero (b == 0)
  where
    by_zero : (z : Bool) → (if z then n else at + 1) ≤ at + 1
    by_zero true = omega arith
    by_zero false = omega arith

text-end : (u : Ty) (at n : ℕ) (bs : List ℕ) → is_character u ≡ true → AreBytes bs → n ≤ at →
    fold (λ n x. max n (end_of x)) n (byte_numbers u at bs) ≡ reached at n (without_zeros bs)
text-end u at n [] e h l = refl
text-end u at n (b ∷ bs) e h l =
    let m = (if b == 0 then n else at + 1) in
    let f : max n (end_of (byte_number u at b)) ≡ m = ap (max n) (byte-end u at b e (h 0)) ∙ later-end n at b l in
    ap (λ k. fold (λ n x. max n (end_of x)) k (byte_numbers u (at + 1) bs)) f
    ∙ text-end u (at + 1) m bs e (λ k. h (suc k)) (low-end n at b l) ∙ one-more at n m b (without_zeros bs) refl

-- all of them
text-bytes : (u : Ty) (bs : List ℕ) → is_character u ≡ true → AreBytes bs →
    initial_bytes (byte_numbers u 0 bs) [] ≡ without_zeros bs
text-bytes u bs e h =
    let ws = without_zeros bs in
    let xs = byte_numbers u 0 bs in
    let n : initial_length xs [] ≡ length ws = ap (λ k. max k 0) (text-end u 0 0 bs e h (omega arith)) ∙ whole ws in
    ap (bytes_from xs 0) n
    ∙ sym (bytes-are ws xs 0 (λ k l. all-same bs k ∙ sym (byte-there u 0 k (0 + k) 0 bs e h refl)))
  where
    whole : (ws : List ℕ) → max (reached 0 0 ws) 0 ≡ length ws
    whole [] = omega arith
    whole (c ∷ cs) = omega arith

-- ---- what the object gets

pub bytes-given : (u v w : Work) (k n : ℕ) (p : Pos) (bytes given : List ℕ) (starts : List Aiming)
    (r : Result Unit Refusal) → Done freely u v (completes_object k n) (NothingThere v tt) (IsNothing v tt) →
    Done quietly v v (object_complete k p) (NothingThere v tt) (IsNothing v tt) → given ≡ bytes → starts ≡ [] →
    Answers freely v w (fills_object k given starts) NothingThere IsNothing r →
    Answers freely u w (fills_bytes k p n bytes) NothingThere IsNothing r
bytes-given u v w k n p bytes given starts r d c e f a =
    let b = subst (λ (ls : List Aiming). Answers freely v w (fills_object k bytes ls) NothingThere IsNothing r) f
    (subst (λ (bs : List ℕ). Answers freely v w (fills_object k bs starts) NothingThere IsNothing r) e a) in
    also_then freely free_law u v w (completes_object k n) (object_complete k p >> fills_object k bytes [])
    (NothingThere v tt) (IsNothing v tt) NothingThere IsNothing r d
    (also_then freely free_law v v w (object_complete k p) (fills_object k bytes []) (NothingThere v tt)
    (IsNothing v tt) NothingThere IsNothing r (freed v v (object_complete k p) NothingThere IsNothing (Ok tt) c) b)

pub bytes-fail : (u v : Work) (k n : ℕ) (p : Pos) (bytes : List ℕ) (e : Refusal) →
    Done freely u v (completes_object k n) (NothingThere v tt) (IsNothing v tt) →
    Answers quietly v v (object_complete k p) NothingThere IsNothing (Err e) →
    Answers freely u v (fills_bytes k p n bytes) NothingThere IsNothing (Err e)
bytes-fail u v k n p bytes e d a =
    also_then freely free_law u v v (completes_object k n) (object_complete k p >> fills_object k bytes [])
    (NothingThere v tt) (IsNothing v tt) NothingThere IsNothing (Err e) d
    (failed freely v v v (object_complete k p) (λ x. fills_object k bytes []) NothingThere IsNothing NothingThere
    IsNothing e (freed v v (object_complete k p) NothingThere IsNothing (Err e) a))

text-filled : (k n : ℕ) (p whole : Pos) (t : Ty) (bs : List ℕ) (s : State) → takes_string t ≡ true → AreBytes bs →
    static_filled k p (record { slots = byte_slots whole (element t) 0 bs; count = n }) s
    ≡ fills_bytes k p n (without_zeros bs) s
text-filled k n p whole t bs s e h =
    let c = element-character t e in
    ap (λ (o : Result (statics.Found × State) Fault). continued o (rest_filled k p))
    (text-started (change_static k (counted n) s) whole (element t) 0 bs c)
    ∙ ap (λ (xs : List ℕ). fills_bytes k p n xs s) (text-bytes (element t) bs c h)

pub text-given : (u w : Work) (bs : List ℕ) (q whole p : Pos) (t : Ty) (k most : ℕ) (r : Result Unit Refusal) →
    takes_string t ≡ true → AreBytes bs → AreTaken (length bs) t (Some most) →
    Answers freely u w (fills_bytes k p (length bs) (without_zeros (take most bs))) NothingThere IsNothing r →
    Answers freely u w (fills_text k p bs q whole t) NothingThere IsNothing r
text-given u w bs q whole p t k most r e h m a =
    answers_at freely u w (fills_text k p bs q whole t)
    (fills_bytes k p (length bs) (without_zeros (take most bs))) NothingThere IsNothing r (λ s g. same s) a
  where
    same : (s : State) → (fills_text k p bs q whole t) s
        ≡ fills_bytes k p (length bs) (without_zeros (take most bs)) s
    same s =
        let n = room_for (length bs) t in
        let f : List ℕ → meant.Filled = λ xs.
        record { slots = byte_slots whole (element t) 0 xs; count = length bs } in
        ap (λ (o : Result (meant.Filled × State) Fault). continued o (static_filled k p))
        (need_true (nat_le (length bs) (n + 1)) 133 q (give (f (taken n bs))) s m.0)
        ∙ ap (λ (xs : List ℕ). static_filled k p (f xs) s) (taken-most n most bs m.1)
        ∙ text-filled k (length bs) p whole t (take most bs) s e (λ i. front-bytes most bs i h)

pub text-refused : (u : Work) (bs : List ℕ) (q whole p : Pos) (t : Ty) (k : ℕ) → AreTaken (length bs) t None →
    (s : State) → Shows u s → (fills_text k p bs q whole t) s
    ≡ Err (record { code = 133; place = q })
text-refused u bs q whole p t k m s g =
    ap (λ (o : Result (meant.Filled × State) Fault). continued o (static_filled k p))
    (string-refused bs q whole t 0 (room_for (length bs) t) refl m s)
