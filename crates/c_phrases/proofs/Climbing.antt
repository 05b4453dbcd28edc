-- Loops over phrases.
use Rattle.std.proofs.Common.{◌≡◌, ℕ, zero, suc, ◌+◌, ◌≤◌, ◌<◌, max, Bool, true, false, List, [], ◌∷◌, ◌++◌, length}
use Rattle.std.proofs.Common.{Some, None, refl, ap, sym, subst, ◌∙◌, arith}
use Rattle.std.specs.Prelude.{if◌then◌else◌, nat_le}
use Rattle.std.proofs.lemmas.Bool.Decides.{leb_tells}
use Rattle.std.proofs.Common.{inl, inr}
use Rattle.ck_base.specs.Tokens.{Lexeme}
use Rattle.c_tree.specs.declared.syntax.Node.{Node}
use Rattle.c_tree.specs.Syntax.{Syn, Syns, node, more, one, joined, height}
use Rattle.c_tree.specs.Symbols.{symbol, tail_of}
use Rattle.c_tree.specs.Grammar.{Goal}
use Rattle.c_phrases.specs.declared.cursor.Cursor.{Cursor}
use Rattle.c_phrases.specs.declared.cursor.Part.{Part}
use Rattle.c_phrases.specs.declared.cursor.Parts.{Parts}
use Rattle.c_phrases.specs.declared.cursor.Stop.{Stop}
use Rattle.c_phrases.specs.Reading
use Rattle.c_phrases.specs.Reading.{◌>>=◌, Names, ParsedParts, Reader, level, level_of, goes_on, starts}
use Rattle.c_phrases.specs.Reading.{goes_on_listing, past}
use Rattle.c_phrases.specs.Got.{Means, Holds, Grows, Got, Fails, rest_of, kind_of, after}
use Rattle.c_phrases.specs.Climbing.{Climbs, Lists, list_behind}
use Rattle.c_phrases.proofs.Made.{grows_on, grows_to, holds_on, holds_more, joined_assoc, then_is, else_is, bind_is}
use Rattle.c_phrases.proofs.Made.{fails_same, fails_bind}

pub grows_from : {a b c : List Node} → b ≡ a → Grows b c → Grows a c
grows_from {a} {b} {c} e g = subst (λ v. Grows v c) e g

pub means_at : {a b : List Node} {part : Part} {x : Syn} → b ≡ a → Means a part x → Means b part x
means_at {part = part} {x} e m = subst (λ v. Means v part x) (sym e) m

pub holds_at : {a b : List Node} {parts : Parts} {xs : Syns} → b ≡ a → Holds a parts xs → Holds b parts xs
holds_at {parts = parts} {xs} e m = subst (λ v. Holds v parts xs) (sym e) m

level_is : (x : Syn) → level x ≡ level_of (kind_of x)
level_is (node k t xs) = refl

pub level_kept : {ns : List Node} {part : Part} {x : Syn} → Means ns part x → level x ≡ level_of part.root.kind
level_kept {x = x} m = level_is x ∙ ap level_of (sym m.root.kind)

pub shut_le : (a b : ℕ) → b < a → nat_le a b ≡ false
shut_le a b lt = elim (leb_tells a b) [ inl e ↦ absurd (omega (arith, e.1)) | inr e ↦ e.0 ]

pub climbs_step : {old now mid next : Cursor} {below l : ℕ} {types : Names} {x : Syn} {part p : Part} {o : Lexeme}
    (at : Climbs old now below l types x part) →
    rest_of now ≡ o ∷ rest_of mid → goes_on (tail_of (symbol o)) l (level_of part.root.kind) ≡ true →
    mid.nodes.items ≡ now.nodes.items → part.height ≤ suc below → part.height < p.height →
    Got mid next (Reading.longer (Reading.read below) (suc below) (tail_of (symbol o)) at.tree o types (rest_of mid))
    p → Climbs old next below l types x p
unfolding Reading.climb
climbs_step {old} {now} {mid} {next} {below} {l} {types} {x} {part} {p} {o} at eq on nodes low taller sub =
    go at.turns at.enough at.same
  where
    go : (k : ℕ) → suc (suc below) ≤ k + height at.tree →
        Reading.climb (Reading.read below) (suc below) (suc (suc below)) l types x (rest_of old)
        ≡ Reading.climb (Reading.read below) (suc below) k l types at.tree (rest_of now) →
        Climbs old next below l types x p
    go zero enough same = let t = at.means.tall in absurd (omega arith)
    go (suc k) enough same = record {
      tree = sub.tree;
      means = sub.means;
      turns = k;
      enough = let t = at.means.tall in let u = sub.means.tall in omega arith;
      same = same ∙ ap (λ v. Reading.climb (Reading.read below) (suc below) (suc k) l types at.tree v) eq
          ∙ then_is _ (ap (λ v. goes_on (tail_of (symbol o)) l v) (level_kept at.means) ∙ on) ∙ bind_is _ sub.reads;
      grows = grows_on at.grows (grows_from nodes sub.grows);
    }

pub climbs_fail : {old now : Cursor} (mid : Cursor) {below l : ℕ} {types : Names} {x : Syn} {part : Part} {o : Lexeme}
    (e : Stop) (at : Climbs old now below l types x part) →
    rest_of now ≡ o ∷ rest_of mid → goes_on (tail_of (symbol o)) l (level_of part.root.kind) ≡ true →
    part.height ≤ suc below →
    Fails e (Reading.longer (Reading.read below) (suc below) (tail_of (symbol o)) at.tree o types (rest_of mid)) →
    Fails e (Reading.climb (Reading.read below) (suc below) (suc (suc below)) l types x (rest_of old))
unfolding Reading.climb
climbs_fail {old} {now} mid {below} {l} {types} {x} {part} {o} e at eq on low why = go at.turns at.enough at.same
  where
    go : (k : ℕ) → suc (suc below) ≤ k + height at.tree →
        Reading.climb (Reading.read below) (suc below) (suc (suc below)) l types x (rest_of old)
        ≡ Reading.climb (Reading.read below) (suc below) k l types at.tree (rest_of now) →
        Fails e (Reading.climb (Reading.read below) (suc below) (suc (suc below)) l types x (rest_of old))
    go zero enough same = let t = at.means.tall in absurd (omega arith)
    go (suc k) enough same =
        fails_same e (same ∙ ap (λ v. Reading.climb (Reading.read below) (suc below) (suc k) l types at.tree v) eq
        ∙ then_is _ (ap (λ v. goes_on (tail_of (symbol o)) l v) (level_kept at.means) ∙ on))
        (fails_bind e _ _ why)

pub climbs_end : {old now next : Cursor} {below l : ℕ} {types : Names} {x : Syn} {part : Part}
    (at : Climbs old now below l types x part) →
    starts (λ s. goes_on (tail_of s) l (level_of part.root.kind)) (rest_of now) ≡ false →
    next.nodes.items ≡ now.nodes.items → rest_of next ≡ rest_of now → part.height ≤ suc below →
    Got old next (Reading.climb (Reading.read below) (suc below) (suc (suc below)) l types x (rest_of old)) part
unfolding Reading.climb
climbs_end {old} {now} {next} {below} {l} {types} {x} {part} at stop nodes rest low =
    go at.turns (rest_of now) at.enough at.same stop rest
  where
    go : (k : ℕ) (r : List Lexeme) → suc (suc below) ≤ k + height at.tree →
        Reading.climb (Reading.read below) (suc below) (suc (suc below)) l types x (rest_of old)
        ≡ Reading.climb (Reading.read below) (suc below) k l types at.tree r →
        starts (λ s. goes_on (tail_of s) l (level_of part.root.kind)) r ≡ false → rest_of next ≡ r →
        Got old next (Reading.climb (Reading.read below) (suc below) (suc (suc below)) l types x (rest_of old)) part
    go zero r enough same stop rest = let t = at.means.tall in absurd (omega arith)
    go (suc k) [] enough same stop rest =
        record {
          tree = at.tree;
          means = means_at nodes at.means;
          reads = same ∙ ap (λ v. Some (at.tree, v)) (sym rest);
          grows = grows_to at.grows (sym nodes);
        }
    go (suc k) (o ∷ r) enough same stop rest =
        record {
          tree = at.tree;
          means = means_at nodes at.means;
          reads = same
              ∙ else_is _ (ap (λ v. goes_on (tail_of (symbol o)) l v) (level_kept at.means) ∙ stop)
              ∙ ap (λ v. Some (at.tree, v)) (sym rest);
          grows = grows_to at.grows (sym nodes);
        }

-- steps of a production

-- lists

pub after_more : (zs : Syns) (x : Syn) (o : ParsedParts) →
    after zs (o >>= λ c. Some (more x c.0, c.1)) ≡ after (joined zs (one x)) o
after_more zs x None = refl
after_more zs x (Some c) = ap (λ v. Some (v, c.1)) (sym (joined_assoc zs (one x) c.0))

separated_turn : (rec : Reader) (k : ℕ) (g : Goal) (types : Names) (zs : Syns) (ts r : List Lexeme) (x : Syn) →
    rec g types ts ≡ Some (x, r) →
    after zs (Reading.separated rec (suc k) g types ts) ≡ list_behind rec k g types (joined zs (one x)) r
unfolding Reading.separated
separated_turn rec k g types zs ts r x e =
    ap (λ v. after zs (v >>= λ a. if goes_on_listing a.1
    then (Reading.separated rec k g types (past a.1) >>= λ b. Some (more a.0 b.0, b.1))
    else Some (one a.0, a.1))) e
    ∙ go (goes_on_listing r)
  where
    go : (b : Bool) → after zs (if b then (Reading.separated rec k g types (past r) >>= λ c. Some (more x c.0, c.1))
        else Some (one x, r)) ≡ (if b then after (joined zs (one x)) (Reading.separated rec k g types (past r))
        else Some (joined zs (one x), r))
    go true = after_more zs x (Reading.separated rec k g types (past r))
    go false = refl

pub separated_fails : (e : Stop) (rec : Reader) (k : ℕ) (g : Goal) (types : Names) (zs : Syns) (ts : List Lexeme) →
    Fails e (rec g types ts) → Fails e (after zs (Reading.separated rec (suc k) g types ts))
unfolding Reading.separated
separated_fails e rec k g types zs ts why =
    fails_bind e (Reading.separated rec (suc k) g types ts) (λ a. Some (joined zs a.0, a.1))
    (fails_bind e (rec g types ts) (λ a. if goes_on_listing a.1
    then (Reading.separated rec k g types (past a.1) >>= λ b. Some (more a.0 b.0, b.1))
    else Some (one a.0, a.1)) why)

pub past_shorter : (ts : List Lexeme) → goes_on_listing ts ≡ true → length ts ≡ suc (length (past ts))
past_shorter [] e = cc
past_shorter (t ∷ ts) e = refl

pub lists_begin : {old now : Cursor} {below : ℕ} {g : Goal} {types : Names} {ys : Syns} {start parts : Parts}
    {p : Part} →
    Holds old.nodes.items start ys → (sub : Got old now (Reading.read below g types (rest_of old)) p) →
    length (rest_of now) < length (rest_of old) →
    parts.kids.items ≡ start.kids.items ++ (p.number ∷ []) → parts.height ≡ max start.height p.height →
    Lists old now below g types ys parts
lists_begin {old} {now} {below} {g} {types} {ys} h sub shorter kids tall = record {
  trees = joined ys (one sub.tree);
  holds = holds_more (holds_on sub.grows h) sub.means kids tall;
  turns = length (rest_of old);
  enough = omega arith;
  same = separated_turn (Reading.read below) (length (rest_of old)) g types ys (rest_of old)
      (rest_of now) sub.tree sub.reads;
  grows = sub.grows;
}

pub lists_step : {old now mid next : Cursor} {below : ℕ} {g : Goal} {types : Names} {ys : Syns} {parts parts' : Parts}
    {p : Part} (at : Lists old now below g types ys parts) →
    goes_on_listing (rest_of now) ≡ true → rest_of mid ≡ past (rest_of now) → mid.nodes.items ≡ now.nodes.items →
    (sub : Got mid next (Reading.read below g types (rest_of mid)) p) → length (rest_of next) < length (rest_of mid) →
    parts'.kids.items ≡ parts.kids.items ++ (p.number ∷ []) → parts'.height ≡ max parts.height p.height →
    Lists old next below g types ys parts'
lists_step {old} {now} {mid} {next} {below} {g} {types} {ys} {parts} {parts'}
    {p} at on rest nodes sub shorter kids tall = go at.turns at.enough at.same
  where
    go : (k : ℕ) → length (rest_of now) ≤ k →
        after ys (Reading.list_of (Reading.read below) g types (rest_of old))
        ≡ list_behind (Reading.read below) k g types at.trees (rest_of now) → Lists old next below g types ys parts'
    go zero enough same = let l = past_shorter (rest_of now) on in absurd (omega arith)
    go (suc k) enough same = record {
      trees = joined at.trees (one sub.tree);
      holds = holds_more (holds_on (grows_from nodes sub.grows) at.holds) sub.means kids tall;
      turns = k;
      enough = let l = past_shorter (rest_of now) on in let m = ap length rest in omega arith;
      same = same ∙ then_is _ on
          ∙ ap (λ v. after at.trees (Reading.separated (Reading.read below) (suc k) g types v)) (sym rest)
          ∙ separated_turn (Reading.read below) k g types at.trees (rest_of mid) (rest_of next) sub.tree sub.reads;
      grows = grows_on at.grows (grows_from nodes sub.grows);
    }

pub lists_fail : {old now : Cursor} (mid : Cursor) {below : ℕ} {g : Goal} {types : Names} {ys : Syns} {parts : Parts}
    (e : Stop) (at : Lists old now below g types ys parts) →
    goes_on_listing (rest_of now) ≡ true → rest_of mid ≡ past (rest_of now) →
    Fails e (Reading.read below g types (rest_of mid)) →
    Fails e (after ys (Reading.list_of (Reading.read below) g types (rest_of old)))
lists_fail {old} {now} mid {below} {g} {types} {ys} {parts} e at on rest why = go at.turns at.enough at.same
  where
    go : (k : ℕ) → length (rest_of now) ≤ k →
        after ys (Reading.list_of (Reading.read below) g types (rest_of old))
        ≡ list_behind (Reading.read below) k g types at.trees (rest_of now) →
        Fails e (after ys (Reading.list_of (Reading.read below) g types (rest_of old)))
    go zero enough same = let l = past_shorter (rest_of now) on in absurd (omega arith)
    go (suc k) enough same =
        fails_same e (same ∙ then_is _ on
        ∙ ap (λ v. after at.trees (Reading.separated (Reading.read below) (suc k) g types v)) (sym rest))
        (separated_fails e (Reading.read below) k g types at.trees (rest_of mid) why)
