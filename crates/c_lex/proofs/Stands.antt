-- What stands at a place.
use Rattle.std.proofs.Common.{◌≡◌, ℕ, ◌+◌, ◌≤◌, Bool, true, false, ◌&&◌, ◌||◌, ◌==◌, List, [], ◌∷◌, length, take, drop}
use Rattle.std.proofs.Common.{get_or, refl, sym, ap, subst, arith, length-drop}
use Rattle.std.specs.Prelude.{codes, nat_eq}
use Rattle.std.proofs.lemmas.Bool.{eqb-true}
use Rattle.std.proofs.lemmas.List.Sums.{prefix_len-le-length}
use Rattle.ck_base.specs.declared.tokens.TokenKind.{TokenKind}
use Rattle.ck_base.specs.Lexes.{begins_with, is_blank, is_quote, begins_line, begins_skipped, begins_pack, line_length}
use Rattle.ck_base.specs.Lexes.{ClosesBehind, BeginsWithComment, Separates, Gap, IsLongest, BeginsNoToken, Breaks}
use Rattle.c_lex.specs.declared.pieces.Found.{Found}
use Rattle.c_lex.specs.declared.pieces.Found.TheVariants.{End, Token, Refused}
use Rattle.c_lex.specs.Pieces.{Faults, StandsFound}
use Rattle.c_lex.proofs.Tables.{and_true}

-- the first byte of some bytes
pub head_is : (bytes : List ℕ) → 1 ≤ length bytes → bytes ≡ get_or bytes 0 0 ∷ drop 1 bytes
head_is [] some = absurd (omega arith)
head_is (b ∷ bs) some = refl

-- Tokens that are refused

pub faulty : (bytes : List ℕ) (kind : TokenKind) (n code : ℕ) → IsLongest bytes kind n →
    Faults kind (take n bytes) code → Breaks false bytes code
faulty bytes kind n code longest (Faults.literal literal rejected) = Breaks.literal longest literal rejected
faulty bytes kind n code longest (Faults.word left_out) = Breaks.word longest left_out

pub unclosed_quote : (bytes : List ℕ) → 1 ≤ length bytes → is_quote (get_or bytes 0 0) ≡ true → BeginsNoToken bytes →
    Breaks false bytes 101
unclosed_quote bytes some is none = Breaks.quote (get_or bytes 0 0) (drop 1 bytes) (head_is bytes some) is none

pub stray_byte : (bytes : List ℕ) → (b : ℕ) × (rest : List ℕ) × (bytes ≡ b ∷ rest) × (is_blank b ≡ false) →
    is_quote (get_or bytes 0 0) ≡ false → BeginsNoToken bytes → Breaks false bytes 100
stray_byte bytes blank other none =
    let same : get_or bytes 0 0 ≡ blank.0 = ap (λ v. get_or v 0 0) blank.2 in
    Breaks.stray blank.0 blank.1 blank.2 blank.3 (subst (λ b. is_quote b ≡ false) same other) refl none

-- where no directive begins, it doesn't matter whether one could
on_line : (first : Bool) (bytes : List ℕ) (code : ℕ) → (first && (begins_skipped bytes || begins_pack bytes)) ≡ false →
    Breaks false bytes code → Breaks first bytes code
on_line first bytes code no_directive (Breaks.stray b rest e no_blank no_quote known none) =
    Breaks.stray b rest e no_blank no_quote no_directive none
on_line first bytes code no_directive (Breaks.quote b rest e is none) = Breaks.quote b rest e is none
on_line first bytes code no_directive (Breaks.comment begins open_) = Breaks.comment begins open_
on_line first bytes code no_directive (Breaks.literal longest literal rejected) =
    Breaks.literal longest literal rejected
on_line first bytes code no_directive (Breaks.word longest left_out) = Breaks.word longest left_out
on_line first bytes code no_directive (Breaks.pack is begins) = cc

pub found_on_line : (first : Bool) (bytes : List ℕ) (found : Found) →
    (first && (begins_skipped bytes || begins_pack bytes)) ≡ false → StandsFound false bytes found →
    StandsFound first bytes found
found_on_line first bytes End no_directive stands = stands
found_on_line first bytes (Token kind n) no_directive stands = stands
found_on_line first bytes (Refused code) no_directive stands = on_line first bytes code no_directive stands

-- Separators take some bytes

two_long : (a b : ℕ) (bytes : List ℕ) → begins_with (a ∷ b ∷ []) bytes ≡ true → 2 ≤ length bytes
two_long a b [] e = cc
two_long a b (c ∷ []) e = let second = (and_true (nat_eq a c) _ e).1 in cc
two_long a b (c ∷ d ∷ bytes) e = omega arith

-- a line that begins with another byte than a line feed has a byte
line_some : (b : ℕ) (bytes : List ℕ) → (b == 10) ≡ false → 1 ≤ line_length (b ∷ bytes)
line_some b bytes other = rw other (omega arith)

slashes_some : (bytes : List ℕ) → begins_with (codes "//") bytes ≡ true → 1 ≤ line_length bytes
slashes_some [] e = cc
slashes_some (b ∷ bs) e =
    let slash : 47 ≡ b = eqb-true 47 b (first b bs e) in
    subst (λ c. 1 ≤ line_length (c ∷ bs)) slash (line_some 47 bs refl)
  where
    first : (c : ℕ) (cs : List ℕ) → begins_with (codes "//") (c ∷ cs) ≡ true → nat_eq 47 c ≡ true
    first c cs begins = (and_true (nat_eq 47 c) _ begins).0

skipped_some : (bytes : List ℕ) → begins_skipped bytes ≡ true → 1 ≤ line_length bytes
unfolding begins_skipped
skipped_some [] e = cc
skipped_some (b ∷ bs) e =
    let hash : b ≡ 35 = eqb-true b 35 (and_true (b == 35) _ e).0 in
    subst (λ c. 1 ≤ line_length (c ∷ bs)) (sym hash) (line_some 35 bs refl)

pub block_within : (bytes : List ℕ) (n : ℕ) → ClosesBehind (drop 2 bytes) n → n + 4 ≤ length bytes
block_within bytes n closes =
    let two = two_long 42 47 (drop n (drop 2 bytes)) closes.here in
    omega (arith, length-drop n (drop 2 bytes), length-drop 2 bytes)

-- a separator has a byte at least, and lies in the bytes
pub separator_some : {first : Bool} {bytes : List ℕ} {n : ℕ} → Separates first bytes n → 1 ≤ n
separator_some (Separates.blank b rest e is) = omega arith
separator_some {bytes = bytes} (Separates.comment (BeginsWithComment.line begins)) = slashes_some bytes begins
separator_some (Separates.comment (BeginsWithComment.block begins closes)) = omega arith
separator_some {bytes = bytes} (Separates.directive is begins) = skipped_some bytes begins

pub separator_within : {first : Bool} {bytes : List ℕ} {n : ℕ} → Separates first bytes n → n ≤ length bytes
separator_within (Separates.blank b rest e is) = omega (arith, ap length e)
separator_within {bytes = bytes} (Separates.comment (BeginsWithComment.line begins)) = prefix_len-le-length _ bytes
separator_within {bytes = bytes} (Separates.comment (BeginsWithComment.block begins closes)) =
    block_within bytes _ closes
separator_within {bytes = bytes} (Separates.directive is begins) = prefix_len-le-length _ bytes

-- one more separator
pub gap_push : {file : List ℕ} {i k : ℕ} (n : ℕ) → Gap file i k →
    Separates (begins_line (take k file)) (drop k file) n → Gap file i (k + n)
gap_push n Gap.none separates = Gap.more separates Gap.none
gap_push n (Gap.more before gap) separates = Gap.more before (gap_push n gap separates)

-- separators lead forward
pub gap_forward : {file : List ℕ} {i k : ℕ} → Gap file i k → i ≤ k
gap_forward Gap.none = omega arith
gap_forward (Gap.more separates gap) = omega (arith, separator_some separates, gap_forward gap)
