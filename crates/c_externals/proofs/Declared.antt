-- Declarations, declarator by declarator.
use Rattle.std.proofs.Common.{◌≡◌, ℕ, zero, suc, ◌+◌, ◌≤◌, ◌<◌, max, Bool, true, false, List, [], ◌∷◌, ◌++◌, length}
use Rattle.std.proofs.Common.{reverse, Option, Some, None, refl, ap, sym, ◌∙◌, arith, append_assoc, length-append}
use Rattle.std.proofs.Common.{append-nil as append_nil}
use Rattle.std.specs.Prelude.{Result, Ok, Err, MatchResult, IfOk, IfErr, if◌then◌else◌, option_map}
use Rattle.std.proofs.lemmas.List.{reverse-append}
use Rattle.ck_base.specs.Tokens.{Lexeme}
use Rattle.c_tree.specs.declared.syntax.Node.{Node}
use Rattle.c_tree.specs.declared.syntax.NodeKind.TheVariants as Kinds
use Rattle.c_tree.specs.Syntax.{Syn, Syns, node, nil, more, one, two, joined, own_token, first_token}
use Rattle.c_tree.specs.Grammar.{Naming, Declarator, Initializer, declared_names, all_names, added_names, new_types}
use Rattle.c_tree.specs.Grammar.{defines_types, is_agreed}
use Rattle.c_phrases.specs.declared.cursor.Cursor.{Cursor}
use Rattle.c_phrases.specs.declared.cursor.Root.{Root}
use Rattle.c_phrases.specs.declared.cursor.Part.{Part}
use Rattle.c_phrases.specs.declared.cursor.Parts.{Parts}
use Rattle.c_phrases.specs.declared.cursor.Stop.{Stop}
use Rattle.c_phrases.specs.declared.cursor.Stop.TheVariants.{NoMemory, NoTree}
use Rattle.c_phrases.specs.declared.steps.Specified.{Specified}
use Rattle.c_phrases.specs.Reading
use Rattle.c_phrases.specs.Reading.{◌>>=◌, Names, Parsed, ParsedParts, Reader, read, starts, past, is_comma, is_equals}
use Rattle.c_externals.specs.Statements
use Rattle.c_phrases.specs.Got.{Means, Holds, Grows, Got, Fails, ReadsParts, rest_of, after, some_name, names_of}
use Rattle.c_phrases.specs.Got.{Describes, Made}
use Rattle.c_phrases.specs.Steps.{GotSpecified}
use Rattle.c_externals.specs.Blocks.{adds, added, valued, declared, declared_behind, Declares, GotDeclared, Specifies}
use Rattle.c_externals.specs.Blocks.{GotNaming}
use Rattle.c_phrases.proofs.Tools.{Gives, nothing, gives, bind, given, choose}
use Rattle.c_phrases.proofs.Made.{grows_on, grows_to, means_on, holds_on, holds_more, joined_assoc, then_is, else_is}
use Rattle.c_phrases.proofs.Made.{fails_same, fails_bind, fails_memory}
use Rattle.c_phrases.proofs.Climbing.{grows_from, holds_at}
use Rattle.c_phrases.proofs.Productions.{bind_bind}

-- one more part of what was read
pub with_reads : (old new : Cursor) {read : ParsedParts} (start : Parts) (part : Part) (result : Result Parts Stop) →
    IfOk result (λ parts. parts.height ≡ max start.height part.height) →
    IfOk result (λ parts. parts.kids.items ≡ start.kids.items ++ (part.number ∷ [])) →
    IfErr result (λ e. e ≡ NoMemory) →
    (xs : Syns) (x : Syn) → Holds new.nodes.items start xs → Means new.nodes.items part x →
    Grows old.nodes.items new.nodes.items → read ≡ Some (joined xs (one x), rest_of new) →
    ReadsParts old new read result
with_reads old new start part (Ok parts) tall kids full xs x holds means grows reads =
    record { trees = joined xs (one x); holds = holds_more holds means kids tall; reads = reads; grows = grows }
with_reads old new {read} start part (Err e) tall kids full xs x holds means grows reads = fails_memory e read full

-- what was bound is there
pub bound : {A B : Type 0} (o : Option A) (f : A → Option B) (y : B) → (o >>= f) ≡ Some y →
    (x : A) × (o ≡ Some x) × (f x ≡ Some y)
bound None f y e = cc
bound (Some x) f y e = (x, refl, e)

pub fails_deep : {A B C : Type 0} (e : Stop) (o : Option A) (f : A → Option B) (g : A → B → Option C) →
    Fails e (o >>= f) → Fails e (o >>= λ x. f x >>= g x)
fails_deep NoMemory o f g p = tt
fails_deep NoTree None f g p = refl
fails_deep NoTree (Some x) f g p = ap (λ v. v >>= g x) p

-- what stands before parts that were read
some_parts : (a b : Syns × List Lexeme) → Some a ≡ Some b → a ≡ b
some_parts a b e = let out : ParsedParts → Syns × List Lexeme = elim [ None ↦ a | Some v ↦ v ] in ap out e

pub unafter : (ys : Syns) (o : ParsedParts) (zs : Syns) (r : List Lexeme) → after ys o ≡ Some (zs, r) →
    (ws : Syns) × (o ≡ Some (ws, r)) × (zs ≡ joined ys ws)
unafter ys None zs r e = cc
unafter ys (Some a) zs r e =
    let same = some_parts (joined ys a.0, a.1) (zs, r) e in
    (a.0, ap (λ v. Some (a.0, v)) (ap (λ v. v.1) same), sym (ap (λ v. v.0) same))

pub fails_unafter : (e : Stop) (ys : Syns) (o : ParsedParts) → Fails e (after ys o) → Fails e o
fails_unafter NoMemory ys o p = tt
fails_unafter NoTree ys None p = refl
fails_unafter NoTree ys (Some a) p = cc

after_more : (zs : Syns) (x : Syn) (o : ParsedParts) →
    after zs (o >>= λ c. Some (more x c.0, c.1)) ≡ after (joined zs (one x)) o
after_more zs x None = refl
after_more zs x (Some c) = ap (λ v. Some (v, c.1)) (sym (joined_assoc zs (one x) c.0))

-- A declarator and its initializer

abbrev with_value : Bool → Parsed → Syn → List Lexeme → ParsedParts
with_value b o d ts = if b then (o >>= λ i. Some (two d i.0, i.1)) else Some (one d, ts)

pub initialize_by : (rec : Reader) (h : ℕ) (defines : Bool) (d : Syn) (types : Names) (ts : List Lexeme) →
    Statements.initialize rec h defines d types ts
    ≡ (valued rec d (added_names defines d ++ types) ts
    >>= λ a. Statements.fitting rec h (node Kinds.InitDeclarator (first_token d) a.0) a.1)
unfolding Statements.initialize
initialize_by rec h defines d types ts = go (starts is_equals ts)
  where
    go : (b : Bool) →
        (if b then (rec Initializer (added_names defines d ++ types) (past ts)
        >>= λ i. Statements.fitting rec h (node Kinds.InitDeclarator (first_token d) (two d i.0)) i.1)
        else Statements.fitting rec h (node Kinds.InitDeclarator (first_token d) (one d)) ts)
        ≡ (with_value b (rec Initializer (added_names defines d ++ types) (past ts)) d ts
        >>= λ a. Statements.fitting rec h (node Kinds.InitDeclarator (first_token d) a.0) a.1)
    go true = sym (bind_bind (rec Initializer (added_names defines d ++ types) (past ts))
        (λ i. let q : Syns × List Lexeme = (two d i.0, i.1) in Some q)
        (λ a. Statements.fitting rec h (node Kinds.InitDeclarator (first_token d) a.0) a.1))
    go false = refl

anything : {A : Type 0} (o : Option A) → Gives (λ a. Unit {0}) o
anything None = nothing
anything (Some x) = gives tt

pub valued_begins : (rec : Reader) (d : Syn) (types : Names) (ts : List Lexeme) →
    Gives (λ p. (ws : Syns) × (p.0 ≡ more d ws)) (valued rec d types ts)
valued_begins rec d types ts =
    choose (starts is_equals ts)
    (λ e. bind _ (anything (rec Initializer types (past ts))) (λ i u. gives (one i.0, refl)))
    (λ e. gives (nil, refl))

pub adds_are : (defines : Bool) {ns : List Node} {part : Part} {x : Syn} → Means ns part x →
    adds defines part.root ≡ added_names defines x
adds_are true m = m.root.names
adds_are false m = refl

-- Their names

reverse_name : (o : Option (List ℕ)) → reverse (some_name o) ≡ some_name o
reverse_name None = refl
reverse_name (Some n) = refl

all_names_joined : (xs ys : Syns) → all_names (joined xs ys) ≡ all_names xs ++ all_names ys
all_names_joined nil ys = refl
all_names_joined (more x xs) ys =
    ap (λ v. declared_names x ++ v) (all_names_joined xs ys)
    ∙ sym (append_assoc (declared_names x) (all_names xs) (all_names ys))

pub names_turn : (defines : Bool) {ns : List Node} {part : Part} {a : Syn} (zs : Syns) (before behind next : Names) →
    Means ns part a → behind ≡ reverse (added defines zs) ++ before → next ≡ adds defines part.root ++ behind →
    next ≡ reverse (added defines (joined zs (one a))) ++ before
names_turn false zs before behind next m e f = f ∙ e
names_turn true {part = part} {a} zs before behind next m e f =
    let turned : reverse (declared_names a) ≡ names_of part.root =
    ap reverse (sym m.root.names) ∙ reverse_name (option_map (λ name. name.now) part.root.name) in
    f ∙ ap (λ v. names_of part.root ++ v) e ∙ sym (append_assoc (names_of part.root) (reverse (all_names zs)) before)
    ∙ ap (λ v. v ++ before) (ap (λ v. v ++ reverse (all_names zs)) (sym turned)
    ∙ sym (reverse-append (all_names zs) (declared_names a))
    ∙ ap reverse (ap (λ v. all_names zs ++ v) (sym (append_nil (declared_names a)))
    ∙ sym (all_names_joined zs (one a))))

-- The loop over them

turn : (h k : ℕ) (m : Naming) (defines : Bool) (zs : Syns) (d : Syn) (types next : Names) (ts r : List Lexeme)
    (a : Syn) →
    Statements.initialize (read h) h defines d types ts ≡ Some (a, r) → next ≡ added_names defines a ++ types →
    after zs (Statements.initialized (read h) h (suc k) m defines d types ts)
    ≡ declared_behind h k m defines (joined zs (one a)) next r
unfolding Statements.initialized
turn h k m defines zs d types next ts r a e same =
    ap (λ v. after zs (v >>= λ a. if starts is_comma a.1
    then (read h (Declarator m) (added_names defines a.0 ++ types) (past a.1)
    >>= λ e. Statements.initialized (read h) h k m defines e.0 (added_names defines a.0 ++ types) e.1
    >>= λ b. Some (more a.0 b.0, b.1)) else Some (one a.0, a.1))) e
    ∙ go (starts is_comma r) ∙ ap (λ v. declared_behind h k m defines (joined zs (one a)) v r) (sym same)
  where
    go : (b : Bool) →
        after zs (if b then (read h (Declarator m) (added_names defines a ++ types) (past r)
        >>= λ e. Statements.initialized (read h) h k m defines e.0 (added_names defines a ++ types) e.1
        >>= λ b. Some (more a b.0, b.1)) else Some (one a, r))
        ≡ (if b then after (joined zs (one a)) (read h (Declarator m) (added_names defines a ++ types) (past r)
        >>= λ e. Statements.initialized (read h) h k m defines e.0 (added_names defines a ++ types) e.1)
        else Some (joined zs (one a), r))
    go true =
        ap (λ v. after zs v) (sym (bind_bind (read h (Declarator m) (added_names defines a ++ types) (past r))
        (λ e. Statements.initialized (read h) h k m defines e.0 (added_names defines a ++ types) e.1)
        (λ b. Some (more a b.0, b.1))))
        ∙ after_more zs a (read h (Declarator m) (added_names defines a ++ types) (past r)
        >>= λ e. Statements.initialized (read h) h k m defines e.0 (added_names defines a ++ types) e.1)
    go false = refl

pub fails_begin : (e : Stop) (ys : Syns) (h k : ℕ) (m : Naming) (defines : Bool) (x : Syn) (types : Names)
    (ts : List Lexeme) → Fails e (Statements.initialize (read h) h defines x types ts) →
    Fails e (after ys (Statements.initialized (read h) h (suc k) m defines x types ts))
unfolding Statements.initialized
fails_begin e ys h k m defines x types ts why = fails_bind e _ _ (fails_bind e _ _ why)

pub declares_begin : {old now : Cursor} {before behind : Names} {h : ℕ} {m : Naming} {defines : Bool} {x : Syn}
    {ys : Syns} {start parts : Parts} {p : Part} →
    Holds old.nodes.items start ys → Got old now (Statements.initialize (read h) h defines x before (rest_of old)) p →
    behind ≡ adds defines p.root ++ before → length (rest_of now) ≤ length (rest_of old) →
    parts.kids.items ≡ start.kids.items ++ (p.number ∷ []) → parts.height ≡ max start.height p.height →
    Declares old now before behind h m defines x ys parts
declares_begin {old} {now} {before} {behind} {h} {m} {defines} {x} {ys} holds sub names shorter kids tall = record {
  trees = joined ys (one sub.tree);
  holds = holds_more (holds_on sub.grows holds) sub.means kids tall;
  turns = length (rest_of old);
  enough = shorter;
  same = turn h (length (rest_of old)) m defines ys x before behind (rest_of old) (rest_of now) sub.tree sub.reads
      (names ∙ ap (λ v. v ++ before) (adds_are defines sub.means));
  names = λ none. names_turn defines ys before before behind sub.means (ap (λ v. reverse v ++ before) (sym none)) names;
  grows = sub.grows;
}

pub declares_step : {old now next : Cursor} (mid : Cursor) {before behind after_it : Names} {h : ℕ} {m : Naming}
    {defines : Bool} {x : Syn} {ys : Syns} {parts parts' : Parts} {p : Part}
    (at : Declares old now before behind h m defines x ys parts) →
    starts is_comma (rest_of now) ≡ true → rest_of mid ≡ past (rest_of now) →
    length (rest_of now) ≡ length (rest_of mid) + 1 → mid.nodes.items ≡ now.nodes.items →
    Got mid next (declared (read h) h m defines behind (rest_of mid)) p → after_it ≡ adds defines p.root ++ behind →
    length (rest_of next) < length (rest_of mid) →
    parts'.kids.items ≡ parts.kids.items ++ (p.number ∷ []) → parts'.height ≡ max parts.height p.height →
    Declares old next before after_it h m defines x ys parts'
declares_step {old} {now} {next} mid {before} {behind} {after_it} {h} {m} {defines} {x} {ys} {parts} {parts'}
    {p} at on rest taken nodes sub names shorter kids tall = go at.turns at.enough at.same
  where
    go : (k : ℕ) → length (rest_of now) ≤ k →
        after ys (Statements.initialized (read h) h (suc (length (rest_of old))) m defines x before (rest_of old))
        ≡ declared_behind h k m defines at.trees behind (rest_of now) →
        Declares old next before after_it h m defines x ys parts'
    go zero enough same = absurd (omega arith)
    go (suc k) enough same =
        let found = bound (read h (Declarator m) behind (rest_of mid))
        (λ e. Statements.initialize (read h) h defines e.0 behind e.1) (sub.tree, rest_of next) sub.reads in
        let d = found.0 in
        record {
          trees = joined at.trees (one sub.tree);
          holds = holds_more (holds_on (grows_from nodes sub.grows) at.holds) sub.means kids tall;
          turns = k;
          enough = omega arith;
          same =
              same ∙ then_is _ on ∙ ap (λ v. after at.trees
              (read h (Declarator m) behind v
              >>= λ e. Statements.initialized (read h) h (suc k) m defines e.0 behind e.1)) (sym rest)
              ∙ ap (λ v. after at.trees (v >>= λ e. Statements.initialized (read h) h (suc k) m defines e.0 behind e.1))
              found.1
              ∙ turn h k m defines at.trees d.0 behind after_it d.1 (rest_of next) sub.tree found.2
              (names ∙ ap (λ v. v ++ behind) (adds_are defines sub.means));
          names = λ none. names_turn defines at.trees before behind after_it sub.means (at.names none) names;
          grows = grows_on at.grows (grows_from nodes sub.grows);
        }

pub declares_fail : {old now : Cursor} (mid : Cursor) {before behind : Names} {h : ℕ} {m : Naming} {defines : Bool}
    {x : Syn} {ys : Syns} {parts : Parts} (e : Stop) (at : Declares old now before behind h m defines x ys parts) →
    starts is_comma (rest_of now) ≡ true → rest_of mid ≡ past (rest_of now) →
    length (rest_of now) ≡ length (rest_of mid) + 1 →
    Fails e (declared (read h) h m defines behind (rest_of mid)) →
    Fails e (after ys (Statements.initialized (read h) h (suc (length (rest_of old))) m defines x before
    (rest_of old)))
unfolding Statements.initialized
declares_fail {old} {now} mid {before} {behind} {h} {m} {defines} {x} {ys} e at on rest taken why =
    go at.turns at.enough at.same
  where
    go : (k : ℕ) → length (rest_of now) ≤ k →
        after ys (Statements.initialized (read h) h (suc (length (rest_of old))) m defines x before (rest_of old))
        ≡ declared_behind h k m defines at.trees behind (rest_of now) →
        Fails e (after ys (Statements.initialized (read h) h (suc (length (rest_of old))) m defines x before
        (rest_of old)))
    go zero enough same = absurd (omega arith)
    go (suc k) enough same =
        fails_same e (same ∙ then_is _ on
        ∙ ap (λ v. after at.trees (read h (Declarator m) behind v
        >>= λ e. Statements.initialized (read h) h (suc k) m defines e.0 behind e.1)) (sym rest))
        (fails_bind e _ _ (fails_deep e (read h (Declarator m) behind (rest_of mid))
        (λ e. Statements.initialize (read h) h defines e.0 behind e.1)
        (λ e a. if starts is_comma a.1
        then (read h (Declarator m) (added_names defines a.0 ++ behind) (past a.1)
        >>= λ e. Statements.initialized (read h) h k m defines e.0 (added_names defines a.0 ++ behind) e.1
        >>= λ b. Some (more a.0 b.0, b.1)) else Some (one a.0, a.1)) why))

pub declares_end : {old now : Cursor} (next : Cursor) {before behind : Names} {h : ℕ} {m : Naming} {defines : Bool}
    {x : Syn} {ys : Syns} {parts : Parts} (at : Declares old now before behind h m defines x ys parts) →
    starts is_comma (rest_of now) ≡ false → next.nodes.items ≡ now.nodes.items → rest_of next ≡ rest_of now →
    GotDeclared old next before behind defines ys
    (Statements.initialized (read h) h (suc (length (rest_of old))) m defines x before (rest_of old)) parts
declares_end next at off nodes rest = record {
  trees = at.trees;
  holds = holds_at nodes at.holds;
  reads = at.same ∙ else_is _ off ∙ ap (λ v. Some (at.trees, v)) (sym rest);
  names = at.names;
  grows = grows_to at.grows (sym nodes);
}

-- Whole declarations

gathered_plain : (xs : Syns) (ts : List Lexeme) →
    Gives (λ a. declared_names a.0 ≡ []) (Reading.gathered (λ g types ts. None) xs ts)
gathered_plain nil ts = nothing
gathered_plain (more x xs) ts = choose (is_agreed (more x xs)) (λ e. gives refl) (λ e. nothing)

pub specifiers_plain : (rec : Reader) (types : Names) (ts : List Lexeme) →
    Gives (λ a. declared_names a.0 ≡ []) (Reading.specifiers rec types ts)
unfolding Reading.specifiers
specifiers_plain rec types ts =
    bind _ (anything (Reading.specifier_list rec (suc (length ts)) false types ts)) (λ a u. gathered_plain a.0 a.1)

pub specifies_of : {old new : Cursor} (rec : Reader) (types : Names) (ts : List Lexeme) {s : Specified}
    (g : GotSpecified old new (Reading.specifiers rec types ts) s) → Specifies new.nodes.items s g.part.tree
specifies_of rec types ts g =
    record {
      means = g.part.means;
      defines = g.defines;
      names = g.names;
      nameless = given (specifiers_plain rec types ts) g.part.reads;
    }

pub specifies_on : {a b : List Node} {s : Specified} {x : Syn} → Grows a b → Specifies a s x → Specifies b s x
specifies_on g p = record { means = means_on g p.means; defines = p.defines; names = p.names; nameless = p.nameless }

pub declare_at : (b h : ℕ) (types : Names) (ts : List Lexeme) → b ≡ suc h →
    Statements.declare b types ts ≡ Statements.declaration (read h) h types ts
unfolding Statements.declare
declare_at b h types ts e = ap (λ v. Statements.declare v types ts) e

pub declare_none : (b : ℕ) (types : Names) (ts : List Lexeme) → b ≡ 0 → Statements.declare b types ts ≡ None
unfolding Statements.declare
declare_none b types ts e = ap (λ v. Statements.declare v types ts) e

-- specifiers alone add no names
pub adds_none : (s : Syn) (types : Names) → types ≡ new_types (node Kinds.Declaration (own_token s) (one s)) ++ types
adds_none s types = go (defines_types s)
  where
    go : (b : Bool) → types ≡ (if b then [] else []) ++ types
    go true = refl
    go false = refl

-- the names that a declaration adds, in their order
pub adds_new : (s : Syn) (ws : Syns) (t : Lexeme) → declared_names s ≡ [] →
    added (defines_types s) (more s ws) ≡ new_types (node Kinds.Declaration t (more s ws))
adds_new s ws t plain = go (defines_types s)
  where
    go : (b : Bool) → added b (more s ws) ≡ (if b then all_names ws else [])
    go true = ap (λ v. v ++ all_names ws) plain
    go false = refl

pub added_plain : (defines : Bool) (s : Syn) → declared_names s ≡ [] → added defines (one s) ≡ []
added_plain true s plain = ap (λ v. v ++ []) plain
added_plain false s plain = refl

-- what was read behind something that was read before, with the names that it adds
pub naming_after : (old mid new : Cursor) (before behind : Names) {o p : Parsed} (result : Result Part Stop) → o ≡ p →
    Grows old.nodes.items mid.nodes.items →
    MatchResult result (λ part. GotNaming mid new before behind p part) (λ e. Fails e p) →
    MatchResult result (λ part. GotNaming old new before behind o part) (λ e. Fails e o)
naming_after old mid new before behind (Ok part) same grown g =
    record { tree = g.tree; means = g.means; reads = same ∙ g.reads; names = g.names; grows = grows_on grown g.grows }
naming_after old mid new before behind (Err e) same grown why = fails_same e same why

-- a declaration of specifiers alone
pub naming_alone : (old mid new : Cursor) (types : Names) {read : Parsed} (s : Syn) (result : Result Part Stop) →
    MatchResult result (λ part. Means new.nodes.items part (node Kinds.Declaration (own_token s) (one s)))
    (λ e. e ≡ NoMemory) → IfOk result (λ part. Grows mid.nodes.items new.nodes.items) → rest_of new ≡ rest_of mid →
    Grows old.nodes.items mid.nodes.items → read ≡ Some (node Kinds.Declaration (own_token s) (one s), rest_of mid) →
    MatchResult result (λ part. GotNaming old new types types read part) (λ e. Fails e read)
naming_alone old mid new types s (Ok part) made grew rest grown reads = record {
  tree = node Kinds.Declaration (own_token s) (one s);
  means = made;
  reads = reads ∙ ap (λ v. Some (node Kinds.Declaration (own_token s) (one s), v)) (sym rest);
  names = adds_none s types;
  grows = grows_on grown grew;
}
naming_alone old mid new types {read = o} s (Err e) made grew rest grown reads = fails_memory e o made

-- and one of declarators too
pub naming_made : (old mid new : Cursor) (before behind : Names) {root : Root} {parts : Parts} {read : Parsed}
    (t : Lexeme) (xs : Syns) (result : Result Part Stop) →
    MatchResult result (λ part. Made mid.nodes.items new.nodes.items root parts part) (λ e. e ≡ NoMemory) →
    rest_of new ≡ rest_of mid →
    Describes root (node root.kind t xs) → Holds mid.nodes.items parts xs → Grows old.nodes.items mid.nodes.items →
    read ≡ Some (node root.kind t xs, rest_of mid) → behind ≡ new_types (node root.kind t xs) ++ before →
    MatchResult result (λ part. GotNaming old new before behind read part) (λ e. Fails e read)
naming_made old mid new before behind {root = root} t xs (Ok part) made rest describes holds grown reads names =
    record {
      tree = node root.kind t xs;
      means = made.means t xs describes holds;
      reads = reads ∙ ap (λ v. Some (node root.kind t xs, v)) (sym rest);
      names = names;
      grows = grows_on grown made.grows;
    }
naming_made old mid new before behind {read = o} t xs (Err e) made rest describes holds grown reads names =
    fails_memory e o made

pub naming_leaf : (old mid new : Cursor) (types : Names) {read : Parsed} (t : Lexeme) (result : Result Part Stop) →
    MatchResult result (λ part. declared_names (node Kinds.EmptyExternal t nil) ≡ [] →
    Means new.nodes.items part (node Kinds.EmptyExternal t nil)) (λ e. e ≡ NoMemory) →
    IfOk result (λ part. Grows mid.nodes.items new.nodes.items) → rest_of new ≡ rest_of mid →
    Grows old.nodes.items mid.nodes.items → read ≡ Some (node Kinds.EmptyExternal t nil, rest_of mid) →
    MatchResult result (λ part. GotNaming old new types types read part) (λ e. Fails e read)
naming_leaf old mid new types t (Ok part) made grew rest grown reads = record {
  tree = node Kinds.EmptyExternal t nil;
  means = made refl;
  reads = reads ∙ ap (λ v. Some (node Kinds.EmptyExternal t nil, v)) (sym rest);
  names = refl;
  grows = grows_on grown grew;
}
naming_leaf old mid new types {read = o} t (Err e) made grew rest grown reads = fails_memory e o made

pub longer_list : (xs ys zs : Names) → zs ≡ xs ++ ys → length ys ≤ length zs
longer_list xs ys zs e = let same = ap length e ∙ length-append xs ys in omega arith
