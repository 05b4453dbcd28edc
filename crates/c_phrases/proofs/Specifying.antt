-- Lists in braces, members and specifiers.
use Rattle.std.proofs.Common.{◌≡◌, ℕ, zero, suc, ◌+◌, ◌≤◌, ◌<◌, max, min, Bool, true, false, List, [], ◌∷◌, ◌++◌}
use Rattle.std.proofs.Common.{length, Option, Some, None, inl, inr, refl, ap, sym, subst, ◌∙◌, arith}
use Rattle.std.specs.Prelude.{if◌then◌else◌, nat_lt, ◌==◌, not, ◌||◌}
use Rattle.std.specs.Int.{from_bool}
use Rattle.std.proofs.lemmas.Bool.{lt-ltb, eq-eqb, ne_eqb, lt-leb, le-leb, cases_eq}
use Rattle.ck_base.specs.Tokens.{Lexeme}
use Rattle.c_tree.specs.declared.syntax.Node.{Node}
use Rattle.c_tree.specs.declared.syntax.NodeKind.{NodeKind}
use Rattle.c_tree.specs.declared.syntax.NodeKind.TheVariants as Kinds
use Rattle.c_tree.specs.declared.syntax.RecordKind.{RecordKind}
use Rattle.c_tree.specs.declared.syntax.Selection.{Selection}
use Rattle.c_tree.specs.declared.syntax.Symbol.{Symbol}
use Rattle.c_tree.specs.declared.syntax.Symbol.TheVariants as Symbols
use Rattle.c_tree.specs.declared.syntax.Tail.{Tail}
use Rattle.c_tree.specs.declared.syntax.Tail.TheVariants as Tails
use Rattle.c_tree.specs.Syntax.{Syn, Syns, node, nil, more, one, joined, own_token, first_token, height, highest}
use Rattle.c_tree.specs.Syntax.{StandAt, none}
use Rattle.c_tree.specs.Symbols.{symbol, infix_level}
use Rattle.c_tree.specs.Grammar
use Rattle.c_tree.specs.Grammar.{is_word, is_declared_by, Plain, Any, declared_names, names_type, is_typedef_word}
use Rattle.c_tree.specs.Grammar.{is_typedef_node, has_any, count, is_agreed, Expression, Declarator, Member}
use Rattle.c_phrases.specs.declared.cursor.Cursor.{Cursor}
use Rattle.c_phrases.specs.declared.cursor.Part.{Part}
use Rattle.c_phrases.specs.declared.cursor.Parts.{Parts}
use Rattle.c_phrases.specs.declared.cursor.Stop.{Stop}
use Rattle.c_phrases.specs.declared.items.Place.{Place}
use Rattle.c_phrases.specs.declared.steps.Gathered.{Gathered}
use Rattle.c_phrases.specs.declared.steps.Phrase.TheVariants as Phrases
use Rattle.c_phrases.specs.declared.steps.Step.TheVariants as Steps
use Rattle.c_phrases.specs.Reading
use Rattle.c_phrases.specs.Reading.{◌>>=◌, Names, Parsed, ParsedParts, Reader, starts, starts_with, is_close_brace}
use Rattle.c_phrases.specs.Reading.{is_open_brace, is_equals, is_comma, past, past_comma, expect, tag, with_parts}
use Rattle.c_phrases.specs.Reading.{goes_on_specifying, grow, list_of, bracketed, listed}
use Rattle.c_phrases.specs.Got.{IsPlaceOf, Means, Holds, Grows, Joined, Got, GotParts, Fails, rest_of, kind_of, after}
use Rattle.c_phrases.specs.Steps.{members_from, made_by, IsGathered, GotGathered}
use Rattle.c_phrases.specs.Gathering.{members_behind, Fills, Gathers}
use Rattle.c_phrases.proofs.Made.{grows_same, grows_on, grows_to, holds_on, holds_more, joined_nil, then_is, else_is}
use Rattle.c_phrases.proofs.Made.{bind_is, fails_same, fails_bind}
use Rattle.c_phrases.proofs.Tools.{Gives, nothing, gives, given, bind, choose, or_false, or_assoc}
use Rattle.c_phrases.proofs.Climbing.{grows_from, holds_at, after_more}
use Rattle.c_phrases.proofs.Productions.{by_read}

-- Parts

pub no_items : {A : Type 0} (xs : List A) → length xs ≡ 0 → xs ≡ []
no_items [] e = refl
no_items (x ∷ xs) e = absurd (omega arith)

pub holds_none : {ns : List Node} {parts : Parts} {ys : Syns} → Holds ns parts ys → parts.kids.items ≡ [] → ys ≡ nil
holds_none {ns} {parts} {ys} h e = stand_nil (subst (λ v. StandAt ns v ys) e h.stands)
  where
    stand_nil : {ns : List Node} {ys : Syns} → StandAt ns [] ys → ys ≡ nil
    stand_nil none = refl

pub no_kids : {ns : List Node} {parts : Parts} → Holds ns parts nil → parts.kids.items ≡ []
no_kids h = stand_none h.stands
  where
    stand_none : {ns : List Node} {is : List ℕ} → StandAt ns is nil → is ≡ []
    stand_none none = refl

pub holds_some : {ns : List Node} {parts : Parts} {ys : Syns} → Holds ns parts ys → (parts.kids.items ≡ [] → ⊥) →
    ys ≡ nil → ⊥
holds_some {ns} {parts} {ys} h some e = some (no_kids (subst (λ v. Holds ns parts v) e h))

pub with_parts_none : (make : Syns → Syn) (ys : Syns) (ts : List Lexeme) → ys ≡ nil → with_parts make ys ts ≡ None
with_parts_none make ys ts e = ap (λ v. with_parts make v ts) e

pub with_parts_some : (make : Syns → Syn) (ys : Syns) (ts : List Lexeme) → (ys ≡ nil → ⊥) →
    with_parts make ys ts ≡ Some (make ys, ts)
with_parts_some make nil ts e = absurd (e refl)
with_parts_some make (more y ys) ts e = refl

-- a node without parts
pub got_leaf : {old new : Cursor} (mid : Cursor) {read : Parsed} {part : Part} {x : Syn} →
    mid.nodes.items ≡ old.nodes.items → Grows mid.nodes.items new.nodes.items → rest_of new ≡ rest_of mid →
    read ≡ Some (x, rest_of mid) → Means new.nodes.items part x → Got old new read part
got_leaf mid {x = x} nodes grows rest reads means =
    record { tree = x; means = means; reads = reads ∙ ap (λ v. Some (x, v)) (sym rest); grows = grows_from nodes grows }

-- a node of parts
pub got_node : {old mid new : Cursor} {read : ParsedParts} {parts : Parts} {part : Part} {place : Place} (k : NodeKind)
    (t : Lexeme) (got : GotParts old mid read parts) → Joined mid.nodes.items new.nodes.items k t place parts part →
    rest_of new ≡ rest_of mid → IsPlaceOf place (first_token (node k t got.trees)) →
    declared_names (node k t got.trees) ≡ [] → Got old new (read >>= λ a. Some (node k t a.0, a.1)) part
got_node k t got made rest first names = record {
  tree = node k t got.trees;
  means = made.means got.trees first names got.holds;
  reads = bind_is (λ a. Some (node k t a.0, a.1)) got.reads ∙ ap (λ v. Some (node k t got.trees, v)) (sym rest);
  grows = grows_on got.grows made.grows;
}

some_same : {A : Type 0} (x y : A) → Some x ≡ Some y → x ≡ y
some_same x y e = cc

-- What closes a list

abbrev closed : (List Lexeme → Option (List Lexeme)) → ParsedParts → ParsedParts
closed c o = o >>= λ a. c a.1 >>= λ rest. Some (a.0, rest)

closed_after : (ys : Syns) (c : List Lexeme → Option (List Lexeme)) (o : ParsedParts) →
    after ys (closed c o) ≡ closed c (after ys o)
closed_after ys c None = refl
closed_after ys c (Some a) = go (c a.1)
  where
    go : (r : Option (List Lexeme)) →
        after ys (r >>= λ rest. Some (a.0, rest)) ≡ (r >>= λ rest. Some (joined ys a.0, rest))
    go None = refl
    go (Some r) = refl

pub closed_got : {old mid next : Cursor} {parts : Parts} (ys : Syns) (c : List Lexeme → Option (List Lexeme))
    (o : ParsedParts) → GotParts old mid (after ys o) parts → c (rest_of mid) ≡ Some (rest_of next) →
    next.nodes.items ≡ mid.nodes.items → GotParts old next (after ys (closed c o)) parts
closed_got ys c o got e nodes = record {
  trees = got.trees;
  holds = holds_at nodes got.holds;
  reads = closed_after ys c o ∙ bind_is (λ a. c a.1 >>= λ rest. Some (a.0, rest)) got.reads
      ∙ bind_is (λ rest. Some (got.trees, rest)) e;
  grows = grows_to got.grows (sym nodes);
}

pub closed_fails : (e : Stop) (ys : Syns) (c : List Lexeme → Option (List Lexeme)) (o : ParsedParts) →
    Fails e (after ys o) → Fails e (after ys (closed c o))
closed_fails e ys c o why =
    fails_same e (closed_after ys c o) (fails_bind e (after ys o) (λ a. c a.1 >>= λ rest. Some (a.0, rest)) why)

pub closed_open : {old mid : Cursor} {parts : Parts} (e : Stop) (ys : Syns) (c : List Lexeme → Option (List Lexeme))
    (o : ParsedParts) → GotParts old mid (after ys o) parts → Fails e (c (rest_of mid)) →
    Fails e (after ys (closed c o))
closed_open {mid = mid} e ys c o got why =
    fails_same e (closed_after ys c o ∙ bind_is (λ a. c a.1 >>= λ rest. Some (a.0, rest)) got.reads)
    (fails_bind e (c (rest_of mid)) (λ rest. Some (got.trees, rest)) why)

-- a comma that may stand before what closes a list
pub past_comma_is : {old new : List Lexeme} (b : Bool) → b ≡ starts is_comma old → (b ≡ true → new ≡ past old) →
    (b ≡ false → new ≡ old) → new ≡ past_comma old
past_comma_is true e f g = f refl ∙ sym (then_is _ (sym e))
past_comma_is false e f g = g refl ∙ sym (else_is _ (sym e))

abbrev brace_of : List Lexeme → Option (List Lexeme)
brace_of ts = expect is_close_brace (past_comma ts)

module _ (rec : Reader) (g : Grammar.Goal) (types : Names) (ys : Syns) where
  pub braced_fails : (e : Stop) (ts : List Lexeme) → Fails e (after ys (list_of rec g types ts)) →
      Fails e (after ys (Reading.listed_in_braces rec g types ts))
  unfolding Reading.listed_in_braces
  braced_fails e ts why = closed_fails e ys brace_of (list_of rec g types ts) why

  pub braced_open : {old mid : Cursor} {parts : Parts} (e : Stop) (ts r : List Lexeme) →
      GotParts old mid (after ys (list_of rec g types ts)) parts → r ≡ past_comma (rest_of mid) →
      Fails e (expect is_close_brace r) → Fails e (after ys (Reading.listed_in_braces rec g types ts))
  unfolding Reading.listed_in_braces
  braced_open e ts r got same why =
      closed_open e ys brace_of (list_of rec g types ts) got
      (fails_same e (ap (λ v. expect is_close_brace v) (sym same)) why)

  pub braced_closed : {old mid next : Cursor} {parts : Parts} (ts r : List Lexeme) →
      GotParts old mid (after ys (list_of rec g types ts)) parts → r ≡ past_comma (rest_of mid) →
      expect is_close_brace r ≡ Some (rest_of next) → next.nodes.items ≡ mid.nodes.items →
      GotParts old next (after ys (Reading.listed_in_braces rec g types ts)) parts
  unfolding Reading.listed_in_braces
  braced_closed ts r got same e nodes =
      closed_got ys brace_of (list_of rec g types ts) got (ap (λ v. expect is_close_brace v) (sym same) ∙ e) nodes

-- Members

members_turn : (rec : Reader) (k : ℕ) (types : Names) (zs : Syns) (ts r : List Lexeme) (x : Syn) →
    rec Member types ts ≡ Some (x, r) →
    after zs (Reading.members rec (suc k) types ts) ≡ members_behind rec k types (joined zs (one x)) r
unfolding Reading.members
members_turn rec k types zs ts r x e =
    ap (λ v. after zs (v >>= λ a. if starts is_close_brace a.1 then Some (one a.0, a.1)
    else (Reading.members rec k types a.1 >>= λ b. Some (more a.0 b.0, b.1)))) e
    ∙ go (starts is_close_brace r)
  where
    go : (b : Bool) → after zs (if b then Some (one x, r)
        else (Reading.members rec k types r >>= λ c. Some (more x c.0, c.1)))
        ≡ (if b then Some (joined zs (one x), r) else after (joined zs (one x)) (Reading.members rec k types r))
    go true = refl
    go false = after_more zs x (Reading.members rec k types r)

members_fail : (e : Stop) (rec : Reader) (k : ℕ) (types : Names) (zs : Syns) (ts : List Lexeme) →
    Fails e (rec Member types ts) → Fails e (after zs (Reading.members rec (suc k) types ts))
unfolding Reading.members
members_fail e rec k types zs ts why =
    fails_bind e (Reading.members rec (suc k) types ts) (λ a. Some (joined zs a.0, a.1))
    (fails_bind e (rec Member types ts) (λ a. if starts is_close_brace a.1 then Some (one a.0, a.1)
    else (Reading.members rec k types a.1 >>= λ b. Some (more a.0 b.0, b.1))) why)

pub fills_begin : {old now : Cursor} {below : ℕ} {types : Names} {ys : Syns} {start parts : Parts} {p : Part} (k : ℕ) →
    length (rest_of old) < k →
    Holds old.nodes.items start ys → (sub : Got old now (Reading.read below Member types (rest_of old)) p) →
    length (rest_of now) < length (rest_of old) →
    parts.kids.items ≡ start.kids.items ++ (p.number ∷ []) → parts.height ≡ max start.height p.height →
    Fills old now below k types ys parts
fills_begin zero much h sub shorter kids tall = absurd (omega arith)
fills_begin {old} {now} {below} {types} {ys} (suc k) much h sub shorter kids tall = record {
  trees = joined ys (one sub.tree);
  holds = holds_more (holds_on sub.grows h) sub.means kids tall;
  turns = k;
  enough = omega arith;
  same = members_turn (Reading.read below) k types ys (rest_of old) (rest_of now) sub.tree sub.reads;
  grows = sub.grows;
}

pub fills_not : (old : Cursor) (below : ℕ) (types : Names) (ys : Syns) (e : Stop) (k : ℕ) → length (rest_of old) < k →
    Fails e (Reading.read below Member types (rest_of old)) →
    Fails e (after ys (members_from (Reading.read below) k types (rest_of old)))
fills_not old below types ys e zero much why = absurd (omega arith)
fills_not old below types ys e (suc k) much why =
    closed_fails e ys (expect is_close_brace) (Reading.members (Reading.read below) (suc k) types (rest_of old))
    (members_fail e (Reading.read below) k types ys (rest_of old) why)

pub fills_step : {old now next : Cursor} {below k : ℕ} {types : Names} {ys : Syns} {parts parts' : Parts} {p : Part}
    (at : Fills old now below k types ys parts) →
    starts is_close_brace (rest_of now) ≡ false →
    (sub : Got now next (Reading.read below Member types (rest_of now)) p) →
    length (rest_of next) < length (rest_of now) →
    parts'.kids.items ≡ parts.kids.items ++ (p.number ∷ []) → parts'.height ≡ max parts.height p.height →
    Fills old next below k types ys parts'
fills_step {old} {now} {next} {below} {k} {types} {ys} {parts} {parts'} {p} at on sub shorter kids tall =
    go at.turns at.enough at.same
  where
    go : (n : ℕ) → length (rest_of now) < n →
        after ys (Reading.members (Reading.read below) k types (rest_of old))
        ≡ members_behind (Reading.read below) n types at.trees (rest_of now) → Fills old next below k types ys parts'
    go zero enough same = absurd (omega arith)
    go (suc n) enough same = record {
      trees = joined at.trees (one sub.tree);
      holds = holds_more (holds_on sub.grows at.holds) sub.means kids tall;
      turns = n;
      enough = omega arith;
      same = same ∙ else_is _ on
          ∙ members_turn (Reading.read below) n types at.trees (rest_of now) (rest_of next) sub.tree sub.reads;
      grows = grows_on at.grows sub.grows;
    }

pub fills_fail : {old now : Cursor} {below k : ℕ} {types : Names} {ys : Syns} {parts : Parts} (e : Stop)
    (at : Fills old now below k types ys parts) →
    starts is_close_brace (rest_of now) ≡ false → Fails e (Reading.read below Member types (rest_of now)) →
    Fails e (after ys (members_from (Reading.read below) k types (rest_of old)))
fills_fail {old} {now} {below} {k} {types} {ys} e at on why = go at.turns at.enough at.same
  where
    go : (n : ℕ) → length (rest_of now) < n →
        after ys (Reading.members (Reading.read below) k types (rest_of old))
        ≡ members_behind (Reading.read below) n types at.trees (rest_of now) →
        Fails e (after ys (members_from (Reading.read below) k types (rest_of old)))
    go zero enough same = absurd (omega arith)
    go (suc n) enough same =
        closed_fails e ys (expect is_close_brace) (Reading.members (Reading.read below) k types (rest_of old))
        (fails_same e (same ∙ else_is _ on) (members_fail e (Reading.read below) n types at.trees (rest_of now) why))

pub fills_end : {old now next : Cursor} {below k : ℕ} {types : Names} {ys : Syns} {parts : Parts}
    (at : Fills old now below k types ys parts) →
    starts is_close_brace (rest_of now) ≡ true → expect is_close_brace (rest_of now) ≡ Some (rest_of next) →
    next.nodes.items ≡ now.nodes.items →
    GotParts old next (after ys (members_from (Reading.read below) k types (rest_of old))) parts
fills_end {old} {now} {next} {below} {k} {types} {ys} at on e nodes =
    closed_got {mid = now} ys (expect is_close_brace) (Reading.members (Reading.read below) k types (rest_of old))
    (record { trees = at.trees; holds = at.holds; reads = at.same ∙ then_is _ on; grows = at.grows }) e nodes

-- Structs, unions and enumerations

node_closed : (make : Syns → Syn) (zs : Syns) (c : List Lexeme → Option (List Lexeme)) (o : ParsedParts) →
    ◌≡◌ {A = Parsed} (o >>= λ a. c a.1 >>= λ rest. Some (make (joined zs a.0), rest))
    (after zs (closed c o) >>= λ a. Some (make a.0, a.1))
node_closed make zs c None = refl
node_closed make zs c (Some a) = go (c a.1)
  where
    go : (r : Option (List Lexeme)) →
        ◌≡◌ {A = Parsed} (r >>= λ rest. Some (make (joined zs a.0), rest))
        (after zs (r >>= λ rest. Some (a.0, rest)) >>= λ a. Some (make a.0, a.1))
    go None = refl
    go (Some r) = refl

node_after : (make : Syns → Syn) (zs : Syns) (o : ParsedParts) →
    ◌≡◌ {A = Parsed} (o >>= λ a. Some (make (joined zs a.0), a.1)) (after zs o >>= λ a. Some (make a.0, a.1))
node_after make zs None = refl
node_after make zs (Some a) = refl

module _ (rec : Reader) (t : Lexeme) (types : Names) (ts : List Lexeme) {zs : Syns} {r : List Lexeme}
    (tags : Some (tag ts) ≡ Some (zs, r)) where
  pub record_tag : (k : RecordKind) → starts is_open_brace r ≡ false →
      Reading.record_from rec k t types ts ≡ with_parts (node (Kinds.Record k) t) zs r
  unfolding Reading.record_from
  record_tag k e =
      ap (λ p. if starts is_open_brace p.1
      then (Reading.members rec (suc (length ts)) types (past p.1) >>= λ a. expect is_close_brace a.1
      >>= λ rest. Some (node (Kinds.Record k) t (joined p.0 a.0), rest))
      else with_parts (node (Kinds.Record k) t) p.0 p.1) (some_same (tag ts) (zs, r) tags)
      ∙ else_is _ e

  pub record_members : (k : RecordKind) → starts is_open_brace r ≡ true →
      Reading.record_from rec k t types ts ≡ (after zs (members_from rec (suc (length ts)) types (past r))
      >>= λ a. Some (node (Kinds.Record k) t a.0, a.1))
  unfolding Reading.record_from
  record_members k e =
      ap (λ p. if starts is_open_brace p.1
      then (Reading.members rec (suc (length ts)) types (past p.1) >>= λ a. expect is_close_brace a.1
      >>= λ rest. Some (node (Kinds.Record k) t (joined p.0 a.0), rest))
      else with_parts (node (Kinds.Record k) t) p.0 p.1) (some_same (tag ts) (zs, r) tags)
      ∙ then_is _ e ∙ node_closed (node (Kinds.Record k) t) zs (expect is_close_brace)
      (Reading.members rec (suc (length ts)) types (past r))

  pub enum_tag : starts is_open_brace r ≡ false → Reading.enum_from rec t types ts ≡ with_parts (node Kinds.Enum t) zs r
  unfolding Reading.enum_from
  enum_tag e =
      ap (λ p. if starts is_open_brace p.1
      then (Reading.listed_in_braces rec Grammar.Enumerator types (past p.1)
      >>= λ a. Some (node Kinds.Enum t (joined p.0 a.0), a.1)) else with_parts (node Kinds.Enum t) p.0 p.1)
      (some_same (tag ts) (zs, r) tags)
      ∙ else_is _ e

  pub enum_listed : starts is_open_brace r ≡ true →
      Reading.enum_from rec t types ts ≡ (after zs (Reading.listed_in_braces rec Grammar.Enumerator types (past r))
      >>= λ a. Some (node Kinds.Enum t a.0, a.1))
  unfolding Reading.enum_from
  enum_listed e =
      ap (λ p. if starts is_open_brace p.1
      then (Reading.listed_in_braces rec Grammar.Enumerator types (past p.1)
      >>= λ a. Some (node Kinds.Enum t (joined p.0 a.0), a.1)) else with_parts (node Kinds.Enum t) p.0 p.1)
      (some_same (tag ts) (zs, r) tags)
      ∙ then_is _ e ∙ node_after (node Kinds.Enum t) zs (Reading.listed_in_braces rec Grammar.Enumerator types (past r))

-- What specifiers say

has_more : (test : Syn → Bool) (xs : Syns) (x : Syn) → has_any test (joined xs (one x)) ≡ (has_any test xs || test x)
has_more test nil x = or_false (test x)
has_more test (more y xs) x =
    ap (λ v. test y || v) (has_more test xs x) ∙ sym (or_assoc (test y) (has_any test xs) (test x))

count_more : (test : Syn → Bool) (xs : Syns) (x : Syn) →
    count test (joined xs (one x)) ≡ count test xs + from_bool (test x)
count_more test nil x = go (test x)
  where
    go : (b : Bool) → (if b then 0 + 1 else 0) ≡ 0 + from_bool b
    go true = refl
    go false = refl
count_more test (more y xs) x = let s = count_more test xs x in go (test y) s
  where
    go : (b : Bool) → count test (joined xs (one x)) ≡ count test xs + from_bool (test x) →
        (if b then count test (joined xs (one x)) + 1 else count test (joined xs (one x)))
        ≡ (if b then count test xs + 1 else count test xs) + from_bool (test x)
    go true s = omega arith
    go false s = s

count_has : (test : Syn → Bool) (xs : Syns) → nat_lt 0 (count test xs) ≡ has_any test xs
count_has test nil = refl
count_has test (more y xs) = go (test y) (count_has test xs)
  where
    go : (b : Bool) → nat_lt 0 (count test xs) ≡ has_any test xs →
        nat_lt 0 (if b then count test xs + 1 else count test xs) ≡ (b || has_any test xs)
    go true e = lt-ltb 0 (count test xs + 1) (omega arith)
    go false e = e

some_counted : (n : ℕ) → nat_lt 0 (min n 4_294_967_295) ≡ nat_lt 0 n
some_counted zero = refl
some_counted (suc n) = lt-ltb 0 (min (suc n) 4_294_967_295) (omega arith) ∙ sym (lt-ltb 0 (suc n) (omega arith))

one_counted : (n : ℕ) → (min n 4_294_967_295 == 1) ≡ (n == 1)
one_counted n = elim (cases_eq n 1) [
  | inl e ↦ eq-eqb (min n 4_294_967_295) 1 (omega arith) ∙ sym (eq-eqb n 1 e)
  | inr e ↦ ne_eqb (min n 4_294_967_295) 1 (λ f. e (omega arith)) ∙ sym (ne_eqb n 1 e)
]

kind_same : (test : Syn → Bool) (k : NodeKind) (b : Bool) → ((t : Lexeme) (xs : Syns) → b ≡ test (node k t xs)) →
    (x : Syn) → k ≡ kind_of x → b ≡ test x
kind_same test k b h (node l t xs) e = h t xs ∙ ap (λ v. test (node v t xs)) e

pub gathered_more : {g g' : Gathered} (k : NodeKind) (a b d : Bool) →
    ((t : Lexeme) (xs : Syns) → a ≡ is_typedef_word (node k t xs)) →
    ((t : Lexeme) (xs : Syns) → b ≡ is_typedef_node (node k t xs)) →
    ((t : Lexeme) (xs : Syns) → d ≡ names_type (node k t xs)) →
    g'.defines ≡ (g.defines || a) → g'.typedef_name ≡ (g.typedef_name || b) →
    g'.type_names ≡ min (g.type_names + from_bool d) 4_294_967_295 →
    (xs : Syns) (x : Syn) → k ≡ kind_of x → IsGathered g xs → IsGathered g' (joined xs (one x))
gathered_more {g} {g'} k a b d ha hb hd ea eb ed xs x e at = record {
  defines = ea ∙ ap (λ v. g.defines || v) (kind_same is_typedef_word k a ha x e)
      ∙ ap (λ v. v || is_typedef_word x) at.defines ∙ sym (has_more is_typedef_word xs x);
  typedef_name = eb ∙ ap (λ v. g.typedef_name || v) (kind_same is_typedef_node k b hb x e)
      ∙ ap (λ v. v || is_typedef_node x) at.typedef_name ∙ sym (has_more is_typedef_node xs x);
  type_names =
      let n = at.type_names in let m = count_more names_type xs x in
      let s = ap from_bool (kind_same names_type k d hd x e) in omega arith;
}

pub names_has : {g : Gathered} {xs : Syns} → IsGathered g xs → nat_lt 0 g.type_names ≡ has_any names_type xs
names_has {xs = xs} at = ap (λ v. nat_lt 0 v) at.type_names ∙ some_counted (count names_type xs)
    ∙ count_has names_type xs

pub agreed_is : {g : Gathered} {xs : Syns} → IsGathered g xs → (not g.typedef_name || g.type_names == 1) ≡ is_agreed xs
agreed_is {g} {xs} at = ap (λ v. not v || g.type_names == 1) at.typedef_name
    ∙ ap (λ v. not (has_any is_typedef_node xs) || v)
    (ap (λ v. v == 1) at.type_names ∙ one_counted (count names_type xs))

-- Specifiers

after_nil : (o : ParsedParts) → after nil o ≡ o
after_nil None = refl
after_nil (Some a) = refl

pub gathers_begin : {cursor : Cursor} {below : ℕ} {types : Names} {g : Gathered} →
    Holds cursor.nodes.items g.parts nil → g.defines ≡ false → g.typedef_name ≡ false → g.type_names ≡ 0 →
    Gathers cursor cursor below types g
gathers_begin {cursor} {below} {types} h a b n = record {
  trees = nil;
  holds = h;
  gathered = record { defines = a; typedef_name = b; type_names = n };
  turns = suc (length (rest_of cursor));
  enough = omega arith;
  same = ap (λ v. Reading.specifier_list (Reading.read below) (suc (length (rest_of cursor))) (nat_lt 0 v) types
      (rest_of cursor)) (sym n) ∙ sym (after_nil _);
  grows = grows_same;
}

specifier_turn : (rec : Reader) (k : ℕ) (named : Bool) (types : Names) (zs : Syns) (t : Lexeme) (ts r : List Lexeme)
    (x : Syn) → goes_on_specifying types named t ≡ true → Reading.specifier_by rec (symbol t) t types ts ≡ Some (x, r) →
    after zs (Reading.specifier_list rec (suc k) named types (t ∷ ts))
    ≡ after (joined zs (one x)) (Reading.specifier_list rec k (named || names_type x) types r)
unfolding Reading.specifier_list
specifier_turn rec k named types zs t ts r x on e =
    ap (λ v. after zs v) (then_is _ on ∙ bind_is _ e)
    ∙ after_more zs x (Reading.specifier_list rec k (named || names_type x) types r)

pub gathers_step : {old now mid next : Cursor} {below : ℕ} {types : Names} {g g' : Gathered} {p : Part} {t : Lexeme}
    (at : Gathers old now below types g) →
    rest_of now ≡ t ∷ rest_of mid → goes_on_specifying types (nat_lt 0 g.type_names) t ≡ true →
    mid.nodes.items ≡ now.nodes.items →
    (sub : Got mid next (Reading.specifier_by (Reading.read below) (symbol t) t types (rest_of mid)) p) →
    length (rest_of next) ≤ length (rest_of mid) →
    g'.parts.kids.items ≡ g.parts.kids.items ++ (p.number ∷ []) → g'.parts.height ≡ max g.parts.height p.height →
    ((xs : Syns) (x : Syn) → p.root.kind ≡ kind_of x → IsGathered g xs → IsGathered g' (joined xs (one x))) →
    Gathers old next below types g'
gathers_step {old} {now} {mid} {next} {below} {types} {g} {g'} {p}
    {t} at eq on nodes sub shorter kids tall more_gathered = go at.turns at.enough at.same
  where
    both : IsGathered g' (joined at.trees (one sub.tree))
    both = more_gathered at.trees sub.tree sub.means.root.kind at.gathered

    go : (n : ℕ) → length (rest_of now) < n →
        Reading.specifier_list (Reading.read below) (suc (length (rest_of old))) false types (rest_of old)
        ≡ after at.trees (Reading.specifier_list (Reading.read below) n (nat_lt 0 g.type_names) types (rest_of now)) →
        Gathers old next below types g'
    go zero enough same = absurd (omega arith)
    go (suc n) enough same = record {
      trees = joined at.trees (one sub.tree);
      holds = holds_more (holds_on (grows_from nodes sub.grows) at.holds) sub.means kids tall;
      gathered = both;
      turns = n;
      enough = let l = ap length eq in omega arith;
      same = same ∙ ap (λ v. after at.trees (Reading.specifier_list (Reading.read below) (suc n)
          (nat_lt 0 g.type_names) types v)) eq
          ∙ specifier_turn (Reading.read below) n (nat_lt 0 g.type_names) types at.trees t (rest_of mid)
          (rest_of next) sub.tree on sub.reads
          ∙ ap (λ v. after (joined at.trees (one sub.tree))
          (Reading.specifier_list (Reading.read below) n v types (rest_of next)))
          (ap (λ v. v || names_type sub.tree) (names_has at.gathered) ∙ sym (has_more names_type at.trees sub.tree)
          ∙ sym (names_has both));
      grows = grows_on at.grows (grows_from nodes sub.grows);
    }

pub gathers_fail : {old now : Cursor} {below : ℕ} {types : Names} {g : Gathered} {t : Lexeme} (mid : Cursor) (e : Stop)
    (at : Gathers old now below types g) →
    rest_of now ≡ t ∷ rest_of mid → goes_on_specifying types (nat_lt 0 g.type_names) t ≡ true →
    Fails e (Reading.specifier_by (Reading.read below) (symbol t) t types (rest_of mid)) →
    Fails e (Reading.specifier_list (Reading.read below) (suc (length (rest_of old))) false types (rest_of old))
unfolding Reading.specifier_list
gathers_fail {old} {now} {below} {types} {g} {t} mid e at eq on why = go at.turns at.enough at.same
  where
    go : (n : ℕ) → length (rest_of now) < n →
        Reading.specifier_list (Reading.read below) (suc (length (rest_of old))) false types (rest_of old)
        ≡ after at.trees (Reading.specifier_list (Reading.read below) n (nat_lt 0 g.type_names) types (rest_of now)) →
        Fails e (Reading.specifier_list (Reading.read below) (suc (length (rest_of old))) false types (rest_of old))
    go zero enough same = absurd (omega arith)
    go (suc n) enough same =
        fails_same e (same ∙ ap (λ v. after at.trees
        (Reading.specifier_list (Reading.read below) (suc n) (nat_lt 0 g.type_names) types v)) eq
        ∙ ap (λ v. after at.trees v) (then_is _ on))
        (fails_bind e _ (λ a. Some (joined at.trees a.0, a.1))
        (fails_bind e (Reading.specifier_by (Reading.read below) (symbol t) t types (rest_of mid)) _ why))

pub gathers_end : {old now next : Cursor} {below : ℕ} {types : Names} {g : Gathered}
    (at : Gathers old now below types g) →
    starts_with (goes_on_specifying types (nat_lt 0 g.type_names)) (rest_of now) ≡ false →
    next.nodes.items ≡ now.nodes.items → rest_of next ≡ rest_of now →
    GotGathered old next (Reading.specifier_list (Reading.read below) (suc (length (rest_of old))) false types
    (rest_of old)) g
unfolding Reading.specifier_list
gathers_end {old} {now} {next} {below} {types} {g} at stop nodes rest = record {
  parts = record {
    trees = at.trees;
    holds = holds_at nodes at.holds;
    reads = go at.turns (rest_of now) at.enough at.same stop rest;
    grows = grows_to at.grows (sym nodes);
  };
  gathered = at.gathered;
}
  where
    last : (r : List Lexeme) → rest_of next ≡ r →
        ◌≡◌ {A = ParsedParts} (Some (joined at.trees nil, r)) (Some (at.trees, rest_of next))
    last r e = ap (λ v. Some (v, r)) (joined_nil at.trees) ∙ ap (λ v. Some (at.trees, v)) (sym e)

    go : (n : ℕ) (r : List Lexeme) → length r < n →
        Reading.specifier_list (Reading.read below) (suc (length (rest_of old))) false types (rest_of old)
        ≡ after at.trees (Reading.specifier_list (Reading.read below) n (nat_lt 0 g.type_names) types r) →
        starts_with (goes_on_specifying types (nat_lt 0 g.type_names)) r ≡ false → rest_of next ≡ r →
        Reading.specifier_list (Reading.read below) (suc (length (rest_of old))) false types (rest_of old)
        ≡ Some (at.trees, rest_of next)
    go zero r enough same stop e = absurd (omega arith)
    go (suc n) [] enough same stop e = same ∙ last [] e
    go (suc n) (t ∷ r) enough same stop e = same ∙ ap (λ v. after at.trees v) (else_is _ stop) ∙ last (t ∷ r) e

-- The first of the specifiers begins with the first token.

with_own : (k : NodeKind) (t : Lexeme) (xs : Syns) (ts : List Lexeme) →
    Gives {A = Syn × List Lexeme} (λ p. own_token p.0 ≡ t) (with_parts (node k t) xs ts)
with_own k t nil ts = nothing
with_own k t (more x xs) ts = gives refl

node_own : (k : NodeKind) (t : Lexeme) (zs : Syns) (o : ParsedParts) →
    Gives {A = Syn × List Lexeme} (λ p. own_token p.0 ≡ t) (o >>= λ a. Some (node k t (joined zs a.0), a.1))
node_own k t zs None = nothing
node_own k t zs (Some a) = gives refl

closed_own : (k : NodeKind) (t : Lexeme) (zs : Syns) (c : List Lexeme → Option (List Lexeme)) (o : ParsedParts) →
    Gives {A = Syn × List Lexeme} (λ p. own_token p.0 ≡ t)
    (o >>= λ a. c a.1 >>= λ rest. Some (node k t (joined zs a.0), rest))
closed_own k t zs c None = nothing
closed_own k t zs c (Some a) = go (c a.1)
  where
    go : (r : Option (List Lexeme)) →
        Gives {A = Syn × List Lexeme} (λ p. own_token p.0 ≡ t) (r >>= λ rest. Some (node k t (joined zs a.0), rest))
    go None = nothing
    go (Some r) = gives refl

module _ (rec : Reader) (t : Lexeme) (types : Names) (ts : List Lexeme) where
  record_own : (k : RecordKind) →
      Gives {A = Syn × List Lexeme} (λ p. own_token p.0 ≡ t) (Reading.record_from rec k t types ts)
  unfolding Reading.record_from
  record_own k = choose (starts is_open_brace (tag ts).1)
      (λ e. closed_own (Kinds.Record k) t (tag ts).0 (expect is_close_brace)
      (Reading.members rec (suc (length ts)) types (past (tag ts).1)))
      (λ e. with_own (Kinds.Record k) t (tag ts).0 (tag ts).1)

  enum_own : Gives {A = Syn × List Lexeme} (λ p. own_token p.0 ≡ t) (Reading.enum_from rec t types ts)
  unfolding Reading.enum_from
  enum_own = choose (starts is_open_brace (tag ts).1)
      (λ e. node_own Kinds.Enum t (tag ts).0 (Reading.listed_in_braces rec Grammar.Enumerator types (past (tag ts).1)))
      (λ e. with_own Kinds.Enum t (tag ts).0 (tag ts).1)

  specifier_own : (s : Symbol) →
      Gives {A = Syn × List Lexeme} (λ p. own_token p.0 ≡ t) (Reading.specifier_by rec s t types ts)
  specifier_own (Symbols.Specifier w) = gives refl
  specifier_own (Symbols.Record k) = record_own k
  specifier_own Symbols.Enum = enum_own
  specifier_own Symbols.Word = gives refl
  specifier_own _ = nothing

abbrev begins_own : Lexeme → Syns → Type 0
begins_own t nil = Unit {0}
begins_own t (more x xs) = own_token x ≡ t

list_own : (rec : Reader) (k : ℕ) (named : Bool) (types : Names) (t : Lexeme) (ts : List Lexeme) →
    Gives {A = Syns × List Lexeme} (λ p. begins_own t p.0) (Reading.specifier_list rec k named types (t ∷ ts))
unfolding Reading.specifier_list
list_own rec zero named types t ts = nothing
list_own rec (suc k) named types t ts = choose (goes_on_specifying types named t)
    (λ e. bind _ (specifier_own rec t types ts (symbol t))
    (λ a own. behind a own (Reading.specifier_list rec k (named || names_type a.0) types a.1)))
    (λ e. gives tt)
  where
    behind : (a : Syn × List Lexeme) → own_token a.0 ≡ t → (o : ParsedParts) →
        Gives {A = Syns × List Lexeme} (λ p. begins_own t p.0) (o >>= λ b. Some (more a.0 b.0, b.1))
    behind a own None = nothing
    behind a own (Some b) = gives own

pub specifiers_end : (rec : Reader) (types : Names) {ts : List Lexeme} → ts ≡ [] →
    Reading.specifiers rec types ts ≡ None
unfolding Reading.specifiers Reading.specifier_list
specifiers_end rec types e = ap (λ v. Reading.specifiers rec types v) e

module _ (rec : Reader) (types : Names) (ts r : List Lexeme) (xs : Syns)
    (same : Reading.specifier_list rec (suc (length ts)) false types ts ≡ Some (xs, r)) where
  pub specifiers_none : xs ≡ nil → Reading.specifiers rec types ts ≡ None
  unfolding Reading.specifiers
  specifiers_none e = bind_is _ same ∙ ap (λ v. Reading.gathered rec v r) e

  pub specifiers_apart : is_agreed xs ≡ false → Reading.specifiers rec types ts ≡ None
  unfolding Reading.specifiers
  specifiers_apart e = bind_is _ same ∙ go xs e
    where
      go : (xs : Syns) → is_agreed xs ≡ false → Reading.gathered rec xs r ≡ None
      go nil e = refl
      go (more x xs) e = else_is _ e

  pub specifiers_are : (t : Lexeme) (rest : List Lexeme) → ts ≡ t ∷ rest → (xs ≡ nil → ⊥) → is_agreed xs ≡ true →
      Reading.specifiers rec types ts ≡ Some (node Kinds.Specifiers t xs, r)
  unfolding Reading.specifiers
  specifiers_are t rest e some agreed =
      bind_is _ same ∙ go xs some agreed (given (list_own rec (suc (length ts)) false types t rest)
      (ap (λ v. Reading.specifier_list rec (suc (length ts)) false types v) (sym e) ∙ same))
    where
      go : (xs : Syns) → (xs ≡ nil → ⊥) → is_agreed xs ≡ true → begins_own t xs →
          Reading.gathered rec xs r ≡ Some (node Kinds.Specifiers t xs, r)
      go nil some agreed own = absurd (some refl)
      go (more x xs) some agreed own = then_is _ agreed ∙ ap (λ v. Some (node Kinds.Specifiers v (more x xs), r)) own

-- Members and enumerators

pub member_is : (rec : Reader) (h : ℕ) (types : Names) (ts r : List Lexeme) (s : Syn) →
    Reading.specifiers rec types ts ≡ Some (s, r) →
    Reading.member rec h types ts ≡ (after (one s) (list_of rec (Declarator Any) types r)
    >>= λ a. expect Reading.is_semicolon a.1 >>= λ rest. Some (node Kinds.Member (own_token s) a.0, rest))
unfolding Reading.member
member_is rec h types ts r s e = bind_is _ e ∙ go (list_of rec (Declarator Any) types r)
  where
    go : (o : ParsedParts) → ◌≡◌ {A = Parsed}
        (o >>= λ d. expect Reading.is_semicolon d.1
        >>= λ rest. Some (node Kinds.Member (own_token s) (more s d.0), rest))
        (after (one s) o >>= λ a. expect Reading.is_semicolon a.1
        >>= λ rest. Some (node Kinds.Member (own_token s) a.0, rest))
    go None = refl
    go (Some d) = refl

module _ (rec : Reader) (h : ℕ) (types : Names) where
  pub enumerator_end : {ts : List Lexeme} → ts ≡ [] → Reading.enumerator rec h types ts ≡ None
  unfolding Reading.enumerator
  enumerator_end e = ap (λ v. Reading.enumerator rec h types v) e

  pub enumerator_not : {ts r : List Lexeme} {n : Lexeme} → ts ≡ n ∷ r → is_declared_by Plain types n ≡ false →
      Reading.enumerator rec h types ts ≡ None
  unfolding Reading.enumerator
  enumerator_not e f = ap (λ v. Reading.enumerator rec h types v) e ∙ else_is _ f

  pub enumerator_bare : {ts r : List Lexeme} {n : Lexeme} → ts ≡ n ∷ r → is_declared_by Plain types n ≡ true →
      starts is_equals r ≡ false → Reading.enumerator rec h types ts ≡ Some (node Kinds.Enumerator n nil, r)
  unfolding Reading.enumerator
  enumerator_bare e f g = ap (λ v. Reading.enumerator rec h types v) e ∙ then_is _ f ∙ else_is _ g

  pub enumerator_value : {ts r : List Lexeme} {n : Lexeme} → ts ≡ n ∷ r → is_declared_by Plain types n ≡ true →
      starts is_equals r ≡ true →
      Reading.enumerator rec h types ts ≡ made_by rec Kinds.Enumerator n
      (Steps.Read (Phrases.Expression 2) ∷ []) nil types (past r)
  unfolding Reading.enumerator
  enumerator_value {r = r} {n} e f g =
      ap (λ v. Reading.enumerator rec h types v) e ∙ then_is _ f ∙ then_is _ g
      ∙ sym (by_read rec Kinds.Enumerator n types (Phrases.Expression 2) [] nil (past r))

-- Trees that are too high

bind_none : {A B : Type 0} (o : Option A) (f : A → Option B) → ((a : A) → f a ≡ None) → (o >>= f) ≡ None
bind_none None f e = refl
bind_none (Some a) f e = e a

module _ (rec : Reader) (h : ℕ) (x : Syn) (o : Lexeme) (types : Names) where
  high : h < height x + 1 → (k : NodeKind) (xs : Syns) (ts : List Lexeme) →
      height (node k o (more x xs)) ≡ max (height x) (highest xs) + 1 → grow rec h (node k o (more x xs)) ts ≡ None
  high low k xs ts tall = else_is _ (lt-leb (height (node k o (more x xs))) h (omega arith))

  pub too_high : h < height x + 1 → (s : Tail) (ts : List Lexeme) → Reading.longer rec h s x o types ts ≡ None
  unfolding Reading.index_from Reading.call_from Reading.select_from Reading.infix_from Reading.choice_from
      Reading.assign_from
  too_high low Tails.Indexes ts =
      bind_none (bracketed rec (Expression 0) Reading.is_close_bracket types ts) _
      (λ b. high low Kinds.Index (one b.0) b.1 refl)
  too_high low Tails.Calls ts =
      bind_none (listed rec (Expression 1) types ts) _
      (λ b. bind_none (expect Reading.is_close_parenthesis b.1) _ (λ rest. high low Kinds.Call b.0 rest refl))
  too_high low (Tails.Selects s) [] = refl
  too_high low (Tails.Selects s) (n ∷ ts) = go (is_word (symbol n))
    where
      go : (b : Bool) → (if b then grow rec h (node (Kinds.Select s) o (more x (one (node Kinds.MemberName n nil)))) ts
          else None) ≡ None
      go true = high low (Kinds.Select s) (one (node Kinds.MemberName n nil)) ts refl
      go false = refl
  too_high low (Tails.Steps s) ts = high low (Kinds.Postfix s) nil ts refl
  too_high low (Tails.Joins p) ts =
      bind_none (rec (Expression (infix_level p + 1)) types ts) _ (λ b. high low (Kinds.Infix p) (one b.0) b.1 refl)
  too_high low Tails.Asks ts =
      bind_none (bracketed rec (Expression 0) Reading.is_colon types ts) _
      (λ b. bind_none (rec (Expression 2) types b.1) _ (λ c. high low Kinds.Conditional (more b.0 (one c.0)) c.1 refl))
  too_high low (Tails.Assigns p) ts =
      bind_none (rec (Expression 1) types ts) _ (λ b. high low (Kinds.Assignment p) (one b.0) b.1 refl)
  too_high low Tails.Ends ts = refl

-- Selections

module _ (rec : Reader) (h : ℕ) (s : Selection) (x : Syn) (o : Lexeme) where
  pub select_low : h ≤ 1 → (ts : List Lexeme) → Reading.select_from rec h s x o ts ≡ None
  unfolding Reading.select_from
  select_low low [] = refl
  select_low low (n ∷ ts) = go (is_word (symbol n))
    where
      go : (b : Bool) → (if b then grow rec h (node (Kinds.Select s) o (more x (one (node Kinds.MemberName n nil)))) ts
          else None) ≡ None
      go true = else_is _ (lt-leb (max (height x) (max 1 0) + 1) h (omega arith))
      go false = refl

  pub select_not : (ts : List Lexeme) → starts is_word ts ≡ false → Reading.select_from rec h s x o ts ≡ None
  unfolding Reading.select_from
  select_not [] e = refl
  select_not (n ∷ ts) e = else_is _ e

  pub select_is : {ts r : List Lexeme} {n : Lexeme} → ts ≡ n ∷ r → is_word (symbol n) ≡ true →
      height (node (Kinds.Select s) o (more x (one (node Kinds.MemberName n nil)))) ≤ h →
      Reading.select_from rec h s x o ts ≡ Some
      (node (Kinds.Select s) o (more x (one (node Kinds.MemberName n nil))), r)
  unfolding Reading.select_from
  select_is {n = n} e word low =
      ap (λ v. Reading.select_from rec h s x o v) e ∙ then_is _ word
      ∙ then_is _ (le-leb (height (node (Kinds.Select s) o (more x (one (node Kinds.MemberName n nil))))) h low)
