-- Files, one external definition behind the other.
use Rattle.std.proofs.Common.{◌≡◌, ℕ, zero, suc, ◌<◌, max, Bool, true, false, List, [], ◌∷◌, ◌++◌, length, Option, Some}
use Rattle.std.proofs.Common.{None, refl, ap, sym, ◌∙◌, arith}
use Rattle.std.specs.Prelude.{if◌then◌else◌, nat_le, Result, Ok, Err, MatchResult, IfOk}
use Rattle.ck_base.specs.Tokens.{Lexeme}
use Rattle.c_tree.specs.declared.syntax.NodeKind.TheVariants as Kinds
use Rattle.c_tree.specs.Syntax.{Syn, Syns, node, nil, more, one, joined, first_token, height, own_token}
use Rattle.c_tree.specs.Symbols.{symbol}
use Rattle.c_tree.specs.Grammar.{new_types, Naming, Declarator, added_names, defines_types, naming}
use Rattle.c_tree.specs.Parses.{file_start}
use Rattle.c_phrases.specs.declared.cursor.Cursor.{Cursor}
use Rattle.c_phrases.specs.declared.cursor.Part.{Part}
use Rattle.c_phrases.specs.declared.cursor.Parts.{Parts}
use Rattle.c_phrases.specs.declared.cursor.Stop.{Stop}
use Rattle.c_phrases.specs.Reading.{◌>>=◌, Names, Parsed, ParsedParts, read, expect, past, starts, is_comma}
use Rattle.c_phrases.specs.Reading.{is_semicolon}
use Rattle.c_phrases.specs.Reading.{is_open_brace}
use Rattle.c_externals.specs.Statements
use Rattle.c_phrases.specs.Got.{Holds, Grows, Fails, Reads, rest_of}
use Rattle.c_externals.specs.Blocks.{GotNaming, outer, outers_behind, Gathers, GotExternals}
use Rattle.c_phrases.proofs.Tools.{Gives, nothing, gives, bind, given}
use Rattle.c_phrases.proofs.Made.{grows_same, grows_on, holds_on, holds_more, joined_assoc, joined_nil, bind_is}
use Rattle.c_phrases.proofs.Made.{then_is}
use Rattle.c_phrases.proofs.Made.{else_is, fails_same, fails_bind}

-- Functions

pub definition_is : (s d : Syn) (o : Lexeme) (types : Names) (ts : List Lexeme) →
    Statements.definition_from 199 s d o types ts
    ≡ (Statements.block_from (read 198) (Statements.declare 198) (Statements.state 198) o types ts
    >>= λ b. Some (node Kinds.FunctionDefinition (own_token s) (more s (more d (more b.0 nil))), b.1))
unfolding Statements.definition_from Statements.block
definition_is s d o types ts = refl

anything : {A : Type 0} (o : Option A) → Gives (λ a. Unit {0}) o
anything None = nothing
anything (Some x) = gives tt

definition_adds : (h : ℕ) (s d : Syn) (o : Lexeme) (types : Names) (ts : List Lexeme) →
    Gives (λ a. new_types a.0 ≡ []) (Statements.definition_from h s d o types ts)
unfolding Statements.definition_from
definition_adds h s d o types ts = bind _ (anything (Statements.block h o types ts)) (λ b u. gives refl)

-- a function adds no names
pub naming_function : (old mid new : Cursor) (before behind : Names) {o : Parsed} (s d : Syn) (brace : Lexeme)
    (ts : List Lexeme) (result : Result Part Stop) →
    o ≡ Statements.definition_from 199 s d brace before ts → Grows old.nodes.items mid.nodes.items →
    IfOk result (λ part. behind ≡ before) →
    Reads mid new (Statements.definition_from 199 s d brace before ts) result →
    MatchResult result (λ part. GotNaming old new before behind o part) (λ e. Fails e o)
naming_function old mid new before behind s d brace ts (Ok part) same grown names g = record {
  tree = g.tree;
  means = g.means;
  reads = same ∙ g.reads;
  names = names ∙ ap (λ v. v ++ before) (sym (given (definition_adds 199 s d brace before ts) g.reads));
  grows = grows_on grown g.grows;
}
naming_function old mid new before behind s d brace ts (Err e) same grown names why = fails_same e same why

pub behind_brace : (s d : Syn) (types : Names) (ts r : List Lexeme) (o : Lexeme) → ts ≡ o ∷ r →
    is_open_brace (symbol o) ≡ true →
    Statements.external_behind 199 s d types ts
    ≡ (if Statements.are_plain types d then Statements.definition_from 199 s d o types r else None)
unfolding Statements.external_behind
behind_brace s d types ts r o split on = ap (λ v. Statements.external_behind 199 s d types v) split ∙ then_is _ on

-- without a `;` there is no declaration
abbrev fitted : Bool → Syn → Parsed
fitted b x = if b then Some (x, []) else None

abbrev listed_behind : Syn → Naming → Names → Syn × List Lexeme → ParsedParts
listed_behind s m types a =
    if starts is_comma a.1
    then (read 199 (Declarator m) (added_names (defines_types s) a.0 ++ types) (past a.1)
    >>= λ e. Statements.initialized (read 199) 199 0 m (defines_types s) e.0
    (added_names (defines_types s) a.0 ++ types) e.1 >>= λ b. Some (more a.0 b.0, b.1))
    else Some (one a.0, a.1)

abbrev ended_by : Syn → Syns × List Lexeme → Parsed
ended_by s a = expect is_semicolon a.1 >>= λ rest. Some (node Kinds.Declaration (own_token s) (more s a.0), rest)

no_end : (s d : Syn) (m : Naming) (types : Names) → Statements.declaration_behind (read 199) 199 m s d types [] ≡ None
unfolding Statements.declaration_behind Statements.initialized Statements.initialize
no_end s d m types = ended (nat_le (height (node Kinds.InitDeclarator (first_token d) (one d))) 199)
  where
    ended : (b : Bool) → (fitted b (node Kinds.InitDeclarator (first_token d) (one d)) >>= listed_behind s m types
        >>= ended_by s) ≡ None
    ended true = refl
    ended false = refl

pub behind_other : (s d : Syn) (types : Names) (ts : List Lexeme) → starts is_open_brace ts ≡ false →
    Statements.external_behind 199 s d types ts
    ≡ Statements.declaration_behind (read 199) 199 (naming true s) s d types ts
unfolding Statements.external_behind
behind_other s d types [] off = sym (no_end s d (naming true s) types)
behind_other s d types (t ∷ ts) off = else_is _ off

-- Files

pub outer_empty : (h : ℕ) (types : Names) (ts : List Lexeme) (t : Lexeme) → ts ≡ t ∷ past ts →
    starts is_semicolon ts ≡ true → outer h types ts ≡ Some (node Kinds.EmptyExternal t nil, past ts)
outer_empty h types ts t split on =
    ap (λ v. outer h types v) split ∙ then_is _ (sym (ap (λ v. starts is_semicolon v) split) ∙ on)

pub outer_other : (h : ℕ) (types : Names) (ts : List Lexeme) (t : Lexeme) → ts ≡ t ∷ past ts →
    starts is_semicolon ts ≡ false → outer h types ts ≡ Statements.external h types ts
outer_other h types ts t split off =
    ap (λ v. outer h types v) split ∙ else_is _ (sym (ap (λ v. starts is_semicolon v) split) ∙ off)
    ∙ ap (λ v. Statements.external h types v) (sym split)

abbrev chosen : ℕ → Names → Lexeme → List Lexeme → Bool → Parsed
chosen h types t ts b = if b then Some (node Kinds.EmptyExternal t nil, ts) else Statements.external h types (t ∷ ts)

outers_by : (h k : ℕ) (types : Names) (ts : List Lexeme) (t : Lexeme) → ts ≡ t ∷ past ts →
    Statements.externals h (suc k) types ts ≡ (outer h types ts
    >>= λ a. Statements.externals h k (new_types a.0 ++ types) a.1 >>= λ xs. Some (more a.0 xs))
unfolding Statements.externals
outers_by h k types ts t split =
    ap (λ v. Statements.externals h (suc k) types v) split ∙ go (is_semicolon (symbol t))
    ∙ ap (λ v. outer h types v >>= λ a. Statements.externals h k (new_types a.0 ++ types) a.1
    >>= λ xs. Some (more a.0 xs)) (sym split)
  where
    go : (b : Bool) →
        (if b then (Statements.externals h k types (past ts) >>= λ xs. Some (more (node Kinds.EmptyExternal t nil) xs))
        else (Statements.external h types (t ∷ past ts) >>= λ a. Statements.externals h k (new_types a.0 ++ types) a.1
        >>= λ xs. Some (more a.0 xs)))
        ≡ (chosen h types t (past ts) b >>= λ a. Statements.externals h k (new_types a.0 ++ types) a.1
        >>= λ xs. Some (more a.0 xs))
    go true = refl
    go false = refl

outers_more : (zs : Syns) (x : Syn) (o : Option Syns) →
    outers_behind zs (o >>= λ xs. Some (more x xs)) ≡ outers_behind (joined zs (one x)) o
outers_more zs x None = refl
outers_more zs x (Some xs) = ap (λ v. Some v) (sym (joined_assoc zs (one x) xs))

outers_nil : (o : Option Syns) → o ≡ outers_behind nil o
outers_nil None = refl
outers_nil (Some xs) = refl

pub gathers_begin : {old : Cursor} {types : Names} {h : ℕ} {parts : Parts} → Holds old.nodes.items parts nil →
    Gathers old old types types h parts
gathers_begin {old} {types} {h} holds =
    record {
      trees = nil;
      holds = holds;
      turns = suc (length (rest_of old));
      enough = omega arith;
      same = outers_nil (Statements.externals h (suc (length (rest_of old))) types (rest_of old));
      grows = grows_same;
    }

pub gathers_step : {old now next : Cursor} {before behind after_it : Names} {h : ℕ} {parts parts' : Parts} {p : Part}
    (t : Lexeme) (at : Gathers old now before behind h parts) →
    rest_of now ≡ t ∷ past (rest_of now) → GotNaming now next behind after_it (outer h behind (rest_of now)) p →
    length (rest_of next) < length (rest_of now) →
    parts'.kids.items ≡ parts.kids.items ++ (p.number ∷ []) → parts'.height ≡ max parts.height p.height →
    Gathers old next before after_it h parts'
gathers_step {old} {now} {next} {before} {behind} {after_it} {h} {parts} {parts'} {p} t at split sub shorter kids tall =
    go at.turns at.enough at.same
  where
    go : (k : ℕ) → length (rest_of now) < k →
        Statements.externals h (suc (length (rest_of old))) before (rest_of old)
        ≡ outers_behind at.trees (Statements.externals h k behind (rest_of now)) →
        Gathers old next before after_it h parts'
    go zero enough same = absurd (omega arith)
    go (suc k) enough same = record {
      trees = joined at.trees (one sub.tree);
      holds = holds_more (holds_on sub.grows at.holds) sub.means kids tall;
      turns = k;
      enough = omega arith;
      same =
          same ∙ ap (λ v. outers_behind at.trees v)
          (outers_by h k behind (rest_of now) t split ∙ bind_is _ sub.reads
          ∙ ap (λ v. Statements.externals h k v (rest_of next) >>= λ xs. Some (more sub.tree xs)) (sym sub.names))
          ∙ outers_more at.trees sub.tree (Statements.externals h k after_it (rest_of next));
      grows = grows_on at.grows sub.grows;
    }

pub gathers_fail : {old now : Cursor} {before behind : Names} {h : ℕ} {parts : Parts} (t : Lexeme) (e : Stop)
    (at : Gathers old now before behind h parts) →
    rest_of now ≡ t ∷ past (rest_of now) → Fails e (outer h behind (rest_of now)) →
    Fails e (Statements.externals h (suc (length (rest_of old))) before (rest_of old))
gathers_fail {old} {now} {before} {behind} {h} t e at split why = go at.turns at.enough at.same
  where
    go : (k : ℕ) → length (rest_of now) < k →
        Statements.externals h (suc (length (rest_of old))) before (rest_of old)
        ≡ outers_behind at.trees (Statements.externals h k behind (rest_of now)) →
        Fails e (Statements.externals h (suc (length (rest_of old))) before (rest_of old))
    go zero enough same = absurd (omega arith)
    go (suc k) enough same = fails_same e (same
        ∙ ap (λ v. outers_behind at.trees v) (outers_by h k behind (rest_of now) t split))
        (fails_bind e _ _ (fails_bind e _ _ why))

pub gathers_end : {old now : Cursor} {before behind : Names} {h : ℕ} {parts : Parts}
    (at : Gathers old now before behind h parts) →
    rest_of now ≡ [] → GotExternals now (Statements.externals h (suc (length (rest_of old))) before (rest_of old)) parts
unfolding Statements.externals
gathers_end {old} {now} {before} {behind} {h} at none = record {
  trees = at.trees;
  holds = at.holds;
  reads = at.same ∙ ap (λ v. outers_behind at.trees (Statements.externals h at.turns behind v)) none
      ∙ go at.turns at.enough;
}
  where
    go : (k : ℕ) → length (rest_of now) < k →
        outers_behind at.trees (Statements.externals h k behind []) ≡ Some at.trees
    go zero enough = absurd (omega arith)
    go (suc k) enough = ap (λ v. Some v) (joined_nil at.trees)

pub file_of_none : (ts : List Lexeme) → ts ≡ [] → Statements.read_file 199 ts ≡ Some (node Kinds.File file_start nil)
unfolding Statements.read_file Statements.externals
file_of_none ts none = ap (λ v. Statements.read_file 199 v) none
