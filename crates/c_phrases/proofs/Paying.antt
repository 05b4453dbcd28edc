-- What steps pay for nodes, one behind the other.
use Rattle.std.proofs.Common.{◌≡◌, ℕ, ◌+◌, ◌^◌, ◌≤◌, ◌<◌, Bool, true, false, List, [], ◌∷◌, length, Option}
use Rattle.std.proofs.Common.{Some, None, refl, ap, ◌∙◌, arith}
use Rattle.std.specs.Prelude.{nat_le, IfSome}
use Rattle.std.proofs.lemmas.Bool.{leb-true}
use Rattle.ck_base.specs.Tokens.{Lexeme}
use Rattle.c_tree.specs.declared.syntax.NodeKind.{NodeKind}
use Rattle.c_tree.specs.declared.syntax.NodeKind.TheVariants as Kinds
use Rattle.c_tree.specs.Syntax.{weight}
use Rattle.c_phrases.specs.declared.cursor.Cursor.{Cursor}
use Rattle.c_phrases.specs.declared.cursor.Part.{Part}
use Rattle.c_phrases.specs.Reading.{past}
use Rattle.c_phrases.specs.Got.{rest_of, IsRoomy, Owed, Paid}
use Rattle.c_phrases.specs.Suffixes.{height_of}

-- Single steps

pub took : (a b : Cursor) → b.nodes.items ≡ a.nodes.items → length (rest_of a) ≡ length (rest_of b) + 1 → Paid a b 8
took a b n r = let m = ap length n in record { room = omega arith; shorter = omega arith; grows = omega arith }

pub took_past : (a b : Cursor) {t : Lexeme} {ts : List Lexeme} → rest_of a ≡ t ∷ ts → b.nodes.items ≡ a.nodes.items →
    rest_of b ≡ past (rest_of a) → Paid a b 8
took_past a b e n r = let m = ap length n in let k = ap length e in let l = ap length (r ∙ ap past e) in
    record { room = omega arith; shorter = omega arith; grows = omega arith }

pub stayed : (a b : Cursor) → b.nodes.items ≡ a.nodes.items → rest_of b ≡ rest_of a → Owed a b 0
stayed a b n r = let m = ap length n in let k = ap length r in
    record { room = omega arith; shorter = omega arith; grows = omega arith }

pub noded : (a b : Cursor) → length b.nodes.items ≡ length a.nodes.items + 1 → rest_of b ≡ rest_of a → Owed a b 1
noded a b n r = let k = ap length r in record { room = omega arith; shorter = omega arith; grows = omega arith }

pub took_maybe : (a b : Cursor) (r : Bool) → b.nodes.items ≡ a.nodes.items →
    (r ≡ true → length (rest_of a) ≡ length (rest_of b) + 1) → (r ≡ false → rest_of b ≡ rest_of a) → Owed a b 0
took_maybe a b true n s l =
    let m = ap length n in let k = s refl in record { room = omega arith; shorter = omega arith; grows = omega arith }
took_maybe a b false n s l = stayed a b n (l refl)

shorter_past : (ts : List Lexeme) → length (past ts) ≤ length ts
shorter_past [] = omega arith
shorter_past (t ∷ ts) = omega arith

pub passed : (a b : Cursor) → b.nodes.items ≡ a.nodes.items → rest_of b ≡ past (rest_of a) → Owed a b 0
passed a b n r = let m = ap length n in let k = ap length r in let l = shorter_past (rest_of a) in
    record { room = omega arith; shorter = omega arith; grows = omega arith }

-- Two steps. The tests compute where the numbers are literals.

pub then_paid : {a b c : Cursor} {k l : ℕ} → Paid a b k → Paid b c l → Paid a c (k + l)
then_paid p q =
    let r = p.room in let s = p.shorter in let g = p.grows in let r' = q.room in let s' = q.shorter in
    let g' = q.grows in
    record { room = omega arith; shorter = omega arith; grows = omega arith }

pub then_owed : {a b c : Cursor} {k l m : ℕ} → Paid a b k → Owed b c l → nat_le (l + m) k ≡ true → Paid a c m
then_owed {k = k} {l} {m} p q e =
    let f : l + m ≤ k = leb-true (l + m) k e in
    let r = p.room in let s = p.shorter in let g = p.grows in let r' = q.room in let s' = q.shorter in
    let g' = q.grows in
    record { room = omega arith; shorter = omega arith; grows = omega arith }

pub owed_paid : {a b c : Cursor} {k l m : ℕ} → Owed a b l → Paid b c k → nat_le (l + m) k ≡ true → Paid a c m
owed_paid {k = k} {l} {m} q p e =
    let f : l + m ≤ k = leb-true (l + m) k e in
    let r = p.room in let s = p.shorter in let g = p.grows in let r' = q.room in let s' = q.shorter in
    let g' = q.grows in
    record { room = omega arith; shorter = omega arith; grows = omega arith }

pub owed_owed : {a b c : Cursor} {k l : ℕ} → Owed a b k → Owed b c l → Owed a c (k + l)
owed_owed p q =
    let r = p.room in let s = p.shorter in let g = p.grows in let r' = q.room in let s' = q.shorter in
    let g' = q.grows in
    record { room = omega arith; shorter = omega arith; grows = omega arith }

pub owes : {a b : Cursor} {k d : ℕ} → Paid a b k → Owed a b d
owes p = let r = p.room in let s = p.shorter in let g = p.grows in
    record { room = omega arith; shorter = omega arith; grows = omega arith }

pub pays : {a b : Cursor} {k m : ℕ} → Paid a b k → nat_le m k ≡ true → Paid a b m
pays {k = k} {m} p e =
    let f : m ≤ k = leb-true m k e in let r = p.room in let s = p.shorter in let g = p.grows in
    record { room = omega arith; shorter = omega arith; grows = omega arith }

-- Room for what is left

pub roomy_paid : {a b : Cursor} {k : ℕ} → Paid a b k → IsRoomy a → IsRoomy b
roomy_paid p r = let s = p.room in omega arith

pub room_paid : {a b : Cursor} {k : ℕ} → Paid a b k → IsRoomy a → length b.nodes.items < 2 ^ 32
room_paid p r = let s = p.room in omega arith

pub room_owed : {a b : Cursor} {k : ℕ} → Owed a b k → nat_le k 2_147_483_648 ≡ true → IsRoomy a →
    length b.nodes.items < 2 ^ 32
room_owed {k = k} p e r = let f : k ≤ 2_147_483_648 = leb-true k 2_147_483_648 e in let s = p.room in omega arith

-- Heights

pub height_some : (b : ℕ) (o : Option Part) → IfSome o (λ p. p.height ≤ b) → height_of o ≤ b
height_some b None low = omega arith
height_some b (Some p) low = low

pub weight_low : (k : NodeKind) → weight k ≤ 1
weight_low Kinds.File = omega arith
weight_low _ = omega arith

pub room_within : {a b : Cursor} {k : ℕ} → Paid a b k → IsRoomy a → length b.nodes.items < 2 ^ 31
room_within p r = let s = p.room in omega arith
