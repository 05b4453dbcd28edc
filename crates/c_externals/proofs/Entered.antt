-- Statements by how they begin, and what stands in braces, item by item.
use Rattle.std.proofs.Common.{◌≡◌, ℕ, zero, suc, ◌<◌, max, Bool, true, false, List, [], ◌∷◌, ◌++◌, length, Option, Some}
use Rattle.std.proofs.Common.{None, refl, ap, sym, ◌∙◌, arith, append_assoc}
use Rattle.std.specs.Prelude.{if◌then◌else◌}
use Rattle.ck_base.specs.Tokens.{Lexeme}
use Rattle.c_tree.specs.declared.syntax.Symbol.{Symbol}
use Rattle.c_tree.specs.declared.syntax.Symbol.TheVariants as Symbols
use Rattle.c_tree.specs.Syntax.{Syn, Syns, nil, more, one, joined}
use Rattle.c_tree.specs.Symbols.{symbol}
use Rattle.c_tree.specs.Grammar.{new_types}
use Rattle.c_phrases.specs.declared.cursor.Cursor.{Cursor}
use Rattle.c_phrases.specs.declared.cursor.Part.{Part}
use Rattle.c_phrases.specs.declared.cursor.Parts.{Parts}
use Rattle.c_phrases.specs.declared.cursor.Stop.{Stop}
use Rattle.c_externals.specs.declared.statements.Opening.{Opening}
use Rattle.c_phrases.specs.Reading.{◌>>=◌, Names, Parsed, ParsedParts, Reader, read, expect, past, starts}
use Rattle.c_phrases.specs.Reading.{is_close_brace}
use Rattle.c_phrases.specs.Reading.{begins_type}
use Rattle.c_externals.specs.Statements
use Rattle.c_externals.specs.Statements.{StatementReader, declare, state}
use Rattle.c_phrases.specs.Got.{GotParts, Fails, rest_of, after}
use Rattle.c_externals.specs.Blocks.{opening_of, label_of, opened, labelled_by, Extends, Entry, entry, GotEntry, Enters}
use Rattle.c_phrases.proofs.Made.{grows_on, grows_to, holds_on, holds_more, joined_assoc, joined_nil}
use Rattle.c_phrases.proofs.Made.{bind_is}
use Rattle.c_phrases.proofs.Made.{then_is, else_is, fails_same, fails_bind}
use Rattle.c_phrases.proofs.Climbing.{grows_from, holds_at}
use Rattle.c_phrases.proofs.Productions.{bind_bind}

-- How a statement begins

module _ (rec : Reader) (declare : StatementReader) (state : StatementReader) (t : Lexeme) (types : Names)
    (ts : List Lexeme) where
  abbrev pub by_opening : Option Opening → Parsed
  by_opening None = Statements.expression_from rec declare state types (t ∷ ts)
  by_opening (Some o) = opened rec declare state o t types ts

  pub statement_is : (s : Symbol) → Statements.statement_by rec declare state s t types ts ≡ by_opening (opening_of s)
  statement_is Symbols.OpenBrace = refl
  statement_is Symbols.Semicolon = refl
  statement_is Symbols.If = refl
  statement_is Symbols.Switch = refl
  statement_is Symbols.While = refl
  statement_is Symbols.Do = refl
  statement_is Symbols.For = refl
  statement_is Symbols.Break = refl
  statement_is Symbols.Continue = refl
  statement_is Symbols.Return = refl
  statement_is _ = refl

  pub labelled_is : (in_switch : Bool) (s : Symbol) →
      Statements.labelled rec declare state s in_switch t types ts
      ≡ labelled_by rec declare state (label_of in_switch s) t types ts
  labelled_is true Symbols.Case = refl
  labelled_is true Symbols.Default = refl
  labelled_is true _ = refl
  labelled_is false Symbols.Case = refl
  labelled_is false Symbols.Default = refl
  labelled_is false _ = refl

pub state_none : (b : ℕ) (types : Names) (ts : List Lexeme) → b ≡ 0 → state b types ts ≡ None
unfolding state
state_none b types ts e = ap (λ v. state v types ts) e

state_at : (b h : ℕ) (types : Names) (ts : List Lexeme) → b ≡ suc h →
    state b types ts ≡ Statements.statement (read h) (declare h) (state h) types ts
unfolding state
state_at b h types ts e = ap (λ v. state v types ts) e

pub state_end : (b h : ℕ) (types : Names) (ts : List Lexeme) → b ≡ suc h → ts ≡ [] → state b types ts ≡ None
unfolding Statements.statement
state_end b h types ts e none =
    state_at b h types ts e ∙ ap (λ v. Statements.statement (read h) (declare h) (state h) types v) none

state_by : (b h : ℕ) (types : Names) (ts r : List Lexeme) (t : Lexeme) → b ≡ suc h → ts ≡ t ∷ r →
    state b types ts ≡ by_opening (read h) (declare h) (state h) t types r (opening_of (symbol t))
unfolding Statements.statement
state_by b h types ts r t e split =
    state_at b h types ts e ∙ ap (λ v. Statements.statement (read h) (declare h) (state h) types v) split
    ∙ statement_is (read h) (declare h) (state h) t types r (symbol t)

pub state_opens : (b h : ℕ) (types : Names) (ts r : List Lexeme) (t : Lexeme) (o : Opening) → b ≡ suc h → ts ≡ t ∷ r →
    opening_of (symbol t) ≡ Some o → state b types ts ≡ opened (read h) (declare h) (state h) o t types r
state_opens b h types ts r t o e split is =
    state_by b h types ts r t e split ∙ ap (λ v. by_opening (read h) (declare h) (state h) t types r v) is

pub state_expression : (b h : ℕ) (types : Names) (ts r : List Lexeme) (t : Lexeme) → b ≡ suc h → ts ≡ t ∷ r →
    opening_of (symbol t) ≡ None → state b types ts ≡ Statements.expression_from (read h) (declare h) (state h) types ts
state_expression b h types ts r t e split is =
    state_by b h types ts r t e split ∙ ap (λ v. by_opening (read h) (declare h) (state h) t types r v) is
    ∙ ap (λ v. Statements.expression_from (read h) (declare h) (state h) types v) (sym split)

-- What stands in braces

pub after_nil : (o : ParsedParts) → after nil o ≡ o
after_nil None = refl
after_nil (Some a) = refl

after_more : (zs : Syns) (x : Syn) (o : ParsedParts) →
    after zs (o >>= λ c. Some (more x c.0, c.1)) ≡ after (joined zs (one x)) o
after_more zs x None = refl
after_more zs x (Some c) = ap (λ v. Some (v, c.1)) (sym (joined_assoc zs (one x) c.0))

abbrev closed : ParsedParts → ParsedParts
closed o = o >>= λ a. expect is_close_brace a.1 >>= λ rest. Some (a.0, rest)

after_closed : (ys : Syns) (o : ParsedParts) → after ys (closed o) ≡ closed (after ys o)
after_closed ys None = refl
after_closed ys (Some a) = go (expect is_close_brace a.1)
  where
    go : (o : Option (List Lexeme)) →
        after ys (o >>= λ rest. Some (a.0, rest)) ≡ (o >>= λ rest. Some (joined ys a.0, rest))
    go None = refl
    go (Some r) = refl

braces_are : (h : ℕ) (in_switch : Bool) (ys : Syns) (types : Names) (ts : List Lexeme) →
    after ys (Statements.items_in_braces (read h) (declare h) (state h) in_switch types ts)
    ≡ closed (after ys (Statements.items (read h) (declare h) (state h) (suc (length ts)) in_switch types ts))
unfolding Statements.items_in_braces
braces_are h in_switch ys types ts =
    after_closed ys (Statements.items (read h) (declare h) (state h) (suc (length ts)) in_switch types ts)

abbrev chosen : ℕ → Bool → Bool → Names → Lexeme → List Lexeme → Entry
chosen h in_switch b types t ts =
    if b then (declare h types (t ∷ ts) >>= λ a. Some (a.0, a.1, new_types a.0 ++ types))
    else (Statements.labelled (read h) (declare h) (state h) (symbol t) in_switch t types ts
    >>= λ a. Some (a.0, a.1, types))

abbrev further : ℕ → ℕ → Bool → Syn × List Lexeme × Names → ParsedParts
further h k in_switch a =
    Statements.items (read h) (declare h) (state h) k in_switch a.2 a.1 >>= λ b. Some (more a.0 b.0, b.1)

items_by : (h k : ℕ) (in_switch : Bool) (types : Names) (t : Lexeme) (ts : List Lexeme) →
    is_close_brace (symbol t) ≡ false →
    Statements.items (read h) (declare h) (state h) (suc k) in_switch types (t ∷ ts)
    ≡ (entry h in_switch types t ts >>= further h k in_switch)
unfolding Statements.items
items_by h k in_switch types t ts off = else_is _ off ∙ go (begins_type types t)
  where
    go : (b : Bool) →
        (if b then (declare h types (t ∷ ts)
        >>= λ a. Statements.items (read h) (declare h) (state h) k in_switch (new_types a.0 ++ types) a.1
        >>= λ b. Some (more a.0 b.0, b.1))
        else (Statements.labelled (read h) (declare h) (state h) (symbol t) in_switch t types ts
        >>= λ a. Statements.items (read h) (declare h) (state h) k in_switch types a.1
        >>= λ b. Some (more a.0 b.0, b.1)))
        ≡ (chosen h in_switch b types t ts >>= further h k in_switch)
    go true = sym (bind_bind (declare h types (t ∷ ts))
        (λ a. let q : Syn × List Lexeme × Names = (a.0, a.1, new_types a.0 ++ types) in Some q)
        (further h k in_switch))
    go false = sym (bind_bind (Statements.labelled (read h) (declare h) (state h) (symbol t) in_switch t types ts)
        (λ a. let q : Syn × List Lexeme × Names = (a.0, a.1, types) in Some q) (further h k in_switch))

pub extends_same : {types : Names} → Extends types types
extends_same = record { latest = []; is = refl }

pub extends_on : {a b c : Names} → Extends c b → Extends b a → Extends c a
extends_on {a} g f = record {
  latest = g.latest ++ f.latest;
  is = g.is ∙ ap (λ v. g.latest ++ v) f.is
      ∙ sym (append_assoc g.latest f.latest a);
}

pub enters_step : {old now mid next : Cursor} {before behind after_it : Names} {h : ℕ} {in_switch : Bool} {ys : Syns}
    {parts parts' : Parts} {p : Part} {t : Lexeme} (at : Enters old now before behind h in_switch ys parts) →
    rest_of now ≡ t ∷ past (rest_of now) → starts is_close_brace (rest_of now) ≡ false →
    mid.nodes.items ≡ now.nodes.items → rest_of mid ≡ rest_of now →
    GotEntry mid next behind after_it (entry h in_switch behind t (past (rest_of mid))) p →
    length (rest_of next) < length (rest_of mid) →
    parts'.kids.items ≡ parts.kids.items ++ (p.number ∷ []) → parts'.height ≡ max parts.height p.height →
    Enters old next before after_it h in_switch ys parts'
enters_step {old} {now} {mid} {next} {before} {behind} {after_it} {h} {in_switch} {ys} {parts} {parts'} {p}
    {t} at split unclosed nodes rest sub shorter kids tall = go at.turns at.enough at.same
  where
    go : (k : ℕ) → length (rest_of now) < k →
        after ys (Statements.items (read h) (declare h) (state h) (suc (length (rest_of old))) in_switch before
        (rest_of old)) ≡ after at.trees (Statements.items (read h) (declare h) (state h) k in_switch behind
        (rest_of now)) → Enters old next before after_it h in_switch ys parts'
    go zero enough same = absurd (omega arith)
    go (suc k) enough same = record {
      trees = joined at.trees (one sub.tree);
      holds = holds_more (holds_on (grows_from nodes sub.grows) at.holds) sub.means kids tall;
      turns = k;
      enough = let m = ap length rest in omega arith;
      same =
          same ∙ ap (λ v. after at.trees (Statements.items (read h) (declare h) (state h) (suc k) in_switch behind v))
          split
          ∙ ap (λ v. after at.trees v) (items_by h k in_switch behind t (past (rest_of now))
          (sym (ap (λ v. starts is_close_brace v) split) ∙ unclosed)
          ∙ ap (λ v. entry h in_switch behind t (past v) >>= further h k in_switch) (sym rest) ∙ bind_is _ sub.reads)
          ∙ after_more at.trees sub.tree (Statements.items (read h) (declare h) (state h) k in_switch after_it
          (rest_of next));
      grows = grows_on at.grows (grows_from nodes sub.grows);
    }

pub enters_fail : {old now : Cursor} (mid : Cursor) {before behind : Names} {h : ℕ} {in_switch : Bool} {ys : Syns}
    {parts : Parts} {t : Lexeme} (e : Stop) (at : Enters old now before behind h in_switch ys parts) →
    rest_of now ≡ t ∷ past (rest_of now) → starts is_close_brace (rest_of now) ≡ false → rest_of mid ≡ rest_of now →
    Fails e (entry h in_switch behind t (past (rest_of mid))) →
    Fails e (after ys (Statements.items_in_braces (read h) (declare h) (state h) in_switch before (rest_of old)))
enters_fail {old} {now} mid {before} {behind} {h} {in_switch} {ys} {t = t} e at split unclosed rest why =
    go at.turns at.enough at.same
  where
    go : (k : ℕ) → length (rest_of now) < k →
        after ys (Statements.items (read h) (declare h) (state h) (suc (length (rest_of old))) in_switch before
        (rest_of old)) ≡ after at.trees (Statements.items (read h) (declare h) (state h) k in_switch behind
        (rest_of now)) → Fails e (after ys (Statements.items_in_braces (read h) (declare h) (state h) in_switch before
        (rest_of old)))
    go zero enough same = absurd (omega arith)
    go (suc k) enough same =
        fails_same e (braces_are h in_switch ys before (rest_of old)
        ∙ ap (λ v. closed v) (same
        ∙ ap (λ v. after at.trees (Statements.items (read h) (declare h) (state h) (suc k) in_switch behind v))
        split
        ∙ ap (λ v. after at.trees v) (items_by h k in_switch behind t (past (rest_of now))
        (sym (ap (λ v. starts is_close_brace v) split) ∙ unclosed)
        ∙ ap (λ v. entry h in_switch behind t (past v) >>= further h k in_switch) (sym rest))))
        (fails_bind e _ _ (fails_bind e _ _ (fails_bind e _ _ why)))

pub enters_end : {old now : Cursor} (next : Cursor) {before behind : Names} {h : ℕ} {in_switch : Bool} {ys : Syns}
    {parts : Parts} (at : Enters old now before behind h in_switch ys parts) →
    starts is_close_brace (rest_of now) ≡ true → next.nodes.items ≡ now.nodes.items →
    rest_of next ≡ past (rest_of now) →
    GotParts old next (after ys (Statements.items_in_braces (read h) (declare h) (state h) in_switch before
    (rest_of old))) parts
unfolding Statements.items
enters_end {old} {now} next {before} {behind} {h} {in_switch} {ys} {parts} at stop nodes rest = record {
  trees = at.trees;
  holds = holds_at nodes at.holds;
  reads = braces_are h in_switch ys before (rest_of old) ∙ ap (λ v. closed v) at.same
      ∙ go at.turns (rest_of now) at.enough stop ∙ ap (λ v. Some (at.trees, v)) (sym rest);
  grows = grows_to at.grows (sym nodes);
}
  where
    go : (k : ℕ) (r : List Lexeme) → length r < k → starts is_close_brace r ≡ true →
        closed (after at.trees (Statements.items (read h) (declare h) (state h) k in_switch behind r))
        ≡ Some (at.trees, past r)
    go zero r enough stop = absurd (omega arith)
    go (suc k) [] enough stop = cc
    go (suc k) (t ∷ r) enough stop =
        ap (λ v. closed (after at.trees v)) (then_is _ stop)
        ∙ bind_is (λ rest. let q : Syns × List Lexeme = (joined at.trees nil, rest) in Some q)
        (then_is {x = Some r} None stop)
        ∙ ap (λ v. Some (v, r)) (joined_nil at.trees)

pub enters_none : {old now : Cursor} {before behind : Names} {h : ℕ} {in_switch : Bool} {ys : Syns} {parts : Parts}
    (at : Enters old now before behind h in_switch ys parts) →
    rest_of now ≡ [] → after ys (Statements.items_in_braces (read h) (declare h) (state h) in_switch before
    (rest_of old)) ≡ None
unfolding Statements.items
enters_none {old} {now} {before} {behind} {h} {in_switch} {ys} {parts} at none =
    braces_are h in_switch ys before (rest_of old)
    ∙ ap (λ v. closed v) (at.same
    ∙ ap (λ v. after at.trees (Statements.items (read h) (declare h) (state h) at.turns in_switch behind v)) none)
    ∙ go at.turns
  where
    go : (k : ℕ) → closed (after at.trees (Statements.items (read h) (declare h) (state h) k in_switch behind []))
        ≡ None
    go zero = refl
    go (suc k) = refl
