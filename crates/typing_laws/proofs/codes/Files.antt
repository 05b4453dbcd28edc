-- Declarations, statements and files that the grammar derives are refused by codes of typing (C11 6.7 to 6.9).
use Rattle.std.proofs.Common.{◌≡◌, ℕ, Bool, true, false, List, [], ◌∷◌, ◌++◌, Option, Some, None, Result, Ok, Err, refl}
use Rattle.std.proofs.lemmas.Bool.{false≢true}
use Rattle.std.proofs.Common.{sym, ap, subst, inl, inr}
use Rattle.std.specs.Prelude.{if◌then◌else◌, flat_map, ◌&&◌}
use Rattle.ck_base.specs.declared.positions.Pos.{Pos}
use Rattle.ck_base.specs.Tokens.{Lexeme}
use Rattle.c_tree.specs.declared.syntax.NodeKind.TheVariants as Kinds
use Rattle.c_tree.specs.Syntax.{Syn, Syns, node, nil, more, one, two, three, own_token, first_token}
use Rattle.c_tree.specs.Terms.{Program}
use Rattle.c_tree.specs.Scopes.{StaticState, Pending, State, Fault}
use Rattle.c_tree.specs.Readings.{Specified}
use Rattle.c_tree.specs.Scopes.{is_complete}
use Rattle.c_tree.specs.Statements.{is_declaration, labels}
use Rattle.c_tree.specs.Passed.{Names, passed_program, call_name, calls_in}
use Rattle.c_tree.specs.Programs.{reading, readings, beginning, undefined_use, static_faults, routine_faults}
use Rattle.c_tree.specs.Programs.{pending_faults, last_faults, stands_before, earlier, earliest, program_of, has_main}
use Rattle.c_tree.specs.Programs.{ended, all_externals, finished, typing, is_there, fault, file_begins}
use Rattle.c_tree.specs.Grammar as grammar
use Rattle.c_tree.specs.Grammar.{Naming, may_be_nameless, naming, defines_types, names_a_type, Initializes, Initialized}
use Rattle.c_tree.specs.Grammar.{Declaration, Optional, States, Items, Externals}
use Rattle.c_tree.specs.Parses as parses
use Rattle.c_tree.specs.Parses.{DerivesFile}
use Rattle.c_tree.specs.Typing.{RefusesSyntax}
use Rattle.typing_laws.specs.Codes.{IsTypingCode}
use Rattle.typing_laws.proofs.codes.Stepping.{AllOf, Coded, Any, give_coded, then_coded, next_coded, Fine}
use Rattle.typing_laws.proofs.codes.Declarators.{IsDeclarator}
use Rattle.typing_laws.proofs.codes.Declarations.{IsDeclared, uninitialized_coded, initialized_coded, declaration_coded}
use Rattle.typing_laws.proofs.codes.Declarations.{function_coded}
use Rattle.typing_laws.proofs.codes.Statements.{IsItem, IsOptional, Matched, Stands, Stand, items_coded, for_coded}
use Rattle.typing_laws.proofs.codes.Statements.{case_coded, default_coded, switch_coded, expression_coded, block_coded}
use Rattle.typing_laws.proofs.codes.Statements.{if_statement_coded, if_else_coded, while_coded, do_coded, break_coded}
use Rattle.typing_laws.proofs.codes.Statements.{continue_coded, return_coded, return_value_coded}
use Rattle.typing_laws.proofs.codes.Derived.{good}

-- ---- declarations

initializes_good : {types : List (List ℕ)} {m : Naming} {defines : Bool} {a : List Lexeme} {x : Syn} →
    Initializes types m defines a x → may_be_nameless m ≡ false → (s : Specified) →
    Coded Any ((reading x).declared s)
unfolding reading readings
initializes_good (grammar.uninitialized a {x = x} d) e s =
    uninitialized_coded x (reading x) s (subst (λ (b : Bool). IsDeclarator b (reading x)) e (good d))
initializes_good (grammar.initialized o a b {x = x} {y = y} f d q) e s =
    initialized_coded x y (reading x) (reading y) s (subst (λ (b : Bool). IsDeclarator b (reading x)) e (good d))
    (good q)

initialized_good : {m : Naming} {defines : Bool} {types : List (List ℕ)} {a : List Lexeme} {xs : Syns} →
    Initialized m defines types a xs → may_be_nameless m ≡ false → AllOf IsDeclared (readings xs)
unfolding reading readings
initialized_good (grammar.last_one a d) e = (initializes_good d e, tt)
initialized_good (grammar.one_more c a b f d ds) e = (initializes_good d e, initialized_good ds e)

-- a declaration gives names
either_named : (b : Bool) → may_be_nameless (if b then grammar.Any else grammar.Plain) ≡ false
either_named true = refl
either_named false = refl

record IsDeclaration (x : Syn) : Type 0 where
  item : IsItem (reading x)
  external : Coded Any (reading x).external
  declares : is_declaration x ≡ true
  unlabelled : labels x ≡ false

declaration_good : {types : List (List ℕ)} {at_file_scope : Bool} {a : List Lexeme} {x : Syn} →
    Declaration types at_file_scope a x → IsDeclaration x
unfolding reading readings
declaration_good (grammar.specifiers_only c a {s = s} e d) =
    let h = declaration_coded (own_token s).pos (reading s) [] (good d) tt in
    record { item = λ c. h; external = then_coded h (λ i u. give_coded tt); declares = refl; unlabelled = refl }
declaration_good {at_file_scope = f} (grammar.declaration c a b {s = s} {xs = xs} e d ds) =
    let h = declaration_coded (own_token s).pos (reading s) (readings xs) (good d)
    (initialized_good ds (either_named (f && (defines_types s && names_a_type s)))) in
    record { item = λ c. h; external = then_coded h (λ i u. give_coded tt); declares = refl; unlabelled = refl }

-- ---- statements

matched : (xs : Syns) → Matched xs (readings xs)
unfolding reading readings
matched nil = tt
matched (more x xs) = matched xs

optional_good : {types : List (List ℕ)} {before : Lexeme} {a : List Lexeme} {x : Syn} → Optional types before a x →
    IsOptional x (reading x) × (is_declaration x ≡ false)
optional_good grammar.absent = (λ e. absurd (false≢true (sym e)), refl)
optional_good (grammar.present a d) = (λ e. (good d).operand, (good d).undeclared)

record IsStatement (x : Syn) : Type 0 where
  item : IsItem (reading x)
  unlabelled : labels x ≡ false

-- what is no label stands in each block
standing : (b : Bool) (x : Syn) → labels x ≡ false → IsItem (reading x) → Stands b x (reading x)
standing true x e h = inl (e, h)
standing false x e h = (e, h)

mutual
  unfolding reading readings

  states_good : {types : List (List ℕ)} {a : List Lexeme} {x : Syn} → States types a x → IsStatement x
  states_good (grammar.block o c a {xs = xs} e f is) = record {
    item = λ k. block_coded k o xs (readings xs) (items_coded k xs (readings xs) (matched xs) (items_good is));
    unlabelled = refl;
  }
  states_good (grammar.empty_statement c e) = record { item = λ k. give_coded tt; unlabelled = refl }
  states_good (grammar.expression_statement c a {x = x} e d) = record {
    item = λ k. expression_coded k (first_token x) (one x) (reading x) (good d).operand;
    unlabelled = refl;
  }
  states_good (grammar.if_statement t o c a b {x = x} {y = y} e f g d s) = record {
    item = λ k. if_statement_coded k t (two x y) (reading x) (reading y) (good d).operand (states_good s).item;
    unlabelled = refl;
  }
  states_good (grammar.if_else t o c z a b d {x = x} {y = y} {z = w} e f g k q s n r) = record {
    item = λ k. if_else_coded k t (three x y w) (reading x) (reading y) (reading w) (good q).operand
        (states_good s).item (states_good r).item;
    unlabelled = refl;
  }
  states_good (grammar.switch t o c p q a b {x = x} {ys = ys} e f g k l d is) = record {
    item = λ k. switch_coded k t x ys (reading x) (readings ys) (good d).operand (items_good is);
    unlabelled = refl;
  }
  states_good (grammar.while_statement t o c a b {x = x} {y = y} e f g d s) = record {
    item = λ k. while_coded k t (two x y) (reading x) (reading y) (good d).operand (states_good s).item;
    unlabelled = refl;
  }
  states_good (grammar.do_statement t w o c z a b {x = x} {y = y} e f g k l s d) = record {
    item = λ k. do_coded k t (two x y) (reading x) (reading y) (states_good s).item (good d).operand;
    unlabelled = refl;
  }
  states_good (grammar.for_statement t o p q c a b d z {x = x} {y = y} {z = v} {w = w} e f g k l i j m s) = record {
    item = λ k. for_coded k t x y v w (reading x) (reading y) (reading v) (reading w)
        (inr ((optional_good i).1, (optional_good i).0)) (optional_good j).0 (optional_good m).0 (states_good s).item;
    unlabelled = refl;
  }
  states_good (grammar.for_declaration t o q c a b d z {x = x} {y = y} {z = v} {w = w} e f g k i j m s) = record {
    item = λ k. for_coded k t x y v w (reading x) (reading y) (reading v) (reading w)
        (inl ((declaration_good i).declares, (declaration_good i).item)) (optional_good j).0 (optional_good m).0
        (states_good s).item;
    unlabelled = refl;
  }
  states_good (grammar.break_statement t c e f) = record { item = λ k. break_coded k t; unlabelled = refl }
  states_good (grammar.continue_statement t c e f) = record { item = λ k. continue_coded k t; unlabelled = refl }
  states_good (grammar.return_statement t c e f) = record { item = λ k. return_coded k t; unlabelled = refl }
  states_good (grammar.return_value t c a {x = x} e f d) = record {
    item = λ k. return_value_coded k t (reading x) [] (good d).operand;
    unlabelled = refl;
  }

  items_good : {in_switch : Bool} {types : List (List ℕ)} {a : List Lexeme} {xs : Syns} → Items in_switch types a xs →
      Stand in_switch xs (readings xs)
  items_good grammar.no_item = tt
  items_good (grammar.declaration_item {in_switch = b} a c {x = x} d is) =
      (standing b x (declaration_good d).unlabelled (declaration_good d).item, items_good is)
  items_good (grammar.statement_item {in_switch = b} a c {x = x} s is) =
      (standing b x (states_good s).unlabelled (states_good s).item, items_good is)
  items_good (grammar.case_item t c a b {x = x} e f d is) =
      (inr (refl, λ of. case_coded (reading x) of (good d).operand), items_good is)
  items_good (grammar.default_item t c b e f is) = (inr (refl, default_coded), items_good is)

-- ---- the file

nothing_coded : (c : Lexeme) → Coded Any (reading (node Kinds.EmptyExternal c nil)).external
unfolding reading readings
nothing_coded c = give_coded tt

externals_good : {types : List (List ℕ)} {a : List Lexeme} {xs : Syns} → Externals types a xs →
    Coded Any (all_externals (readings xs))
unfolding reading readings
externals_good grammar.no_external = give_coded tt
externals_good (grammar.empty_external c b e es) = next_coded (nothing_coded c) (externals_good es)
externals_good (grammar.external_declaration a b d es) =
    next_coded (declaration_good d).external (externals_good es)
externals_good (grammar.function_definition o c a b d z {s = s} {x = x} {ys = ys} e f g q is es) =
    next_coded (function_coded (own_token s) s x (node Kinds.Block o ys) (reading s) (reading x)
    (reading (node Kinds.Block o ys)) (good g) (good q)
    (λ k. items_coded k ys (readings ys) (matched ys) (items_good is))) (externals_good es)

-- ---- its end

abbrev AreTyping : List Fault → Type 0
AreTyping [] = Unit {0}
AreTyping (f ∷ fs) = IsTypingCode f.code × AreTyping fs

both_typing : (fs gs : List Fault) → AreTyping fs → AreTyping gs → AreTyping (fs ++ gs)
both_typing [] gs h k = k
both_typing (f ∷ fs) gs h k = (h.0, both_typing fs gs h.1 k)

all_typing : {A : Type 0} (f : A → List Fault) → ((x : A) → AreTyping (f x)) → (xs : List A) →
    AreTyping (flat_map f xs)
all_typing f h [] = tt
all_typing f h (x ∷ xs) = both_typing (f x) (flat_map f xs) (h x) (all_typing f h xs)

unless_typing : (b : Bool) (f : Fault) → IsTypingCode f.code → AreTyping (if b then [] else f ∷ [])
unless_typing true f h = tt
unless_typing false f h = (h, tt)

use_typing : (b : Bool) (p : Option Pos) → AreTyping (undefined_use b p)
use_typing true p = tt
use_typing false None = tt
use_typing false (Some p) = (refl, tt)

static_typing : (s : State) (g : StaticState) → AreTyping (static_faults s g)
static_typing s g =
    both_typing _ _ (unless_typing (is_complete s g.of) (fault 132 g.name.pos) refl) (use_typing g.defined g.used)

pending_typing : (s : State) (p : Pending) → AreTyping (pending_faults s p)
pending_typing s p = unless_typing _ (fault 134 p.place) refl

last_typing : (s : State) → AreTyping (last_faults s)
last_typing s =
    both_typing (flat_map (static_faults s) s.statics ++ flat_map routine_faults s.routines) _
    (both_typing _ _ (all_typing (static_faults s) (static_typing s) s.statics)
    (all_typing routine_faults (λ f. use_typing (is_there f.body) f.used) s.routines))
    (all_typing (pending_faults s) (pending_typing s) s.pending)

abbrev MayBeTyping : Option Fault → Type 0
MayBeTyping None = Unit {0}
MayBeTyping (Some f) = IsTypingCode f.code

earlier_typing : (f : Fault) (o : Option Fault) → IsTypingCode f.code → MayBeTyping o → MayBeTyping (earlier f o)
earlier_typing f None h k = h
earlier_typing f (Some g) h k = by (stands_before g.place f.place)
  where
    by : (b : Bool) → MayBeTyping (if b then Some g else Some f)
    by true = k
    by false = h

earliest_typing : (fs : List Fault) → AreTyping fs → MayBeTyping (earliest fs)
earliest_typing [] h = tt
earliest_typing (f ∷ fs) h = earlier_typing f (earliest fs) h.0 (earliest_typing fs h.1)

abbrev code_or : ℕ → Result Program Fault → ℕ
code_or d (Ok p) = d
code_or d (Err e) = e.code

ended_typing : (names : Names) (o : Option Fault) (s : State) (e : Fault) → MayBeTyping o →
    ended names o s ≡ Err e → IsTypingCode e.code
ended_typing names (Some f) s e h q = subst IsTypingCode (ap (code_or f.code) q) h
ended_typing names None s e h q = by (has_main s.routines) q
  where
    by : (b : Bool) → (if b then Ok (passed_program names (program_of s)) else Err (fault 135 file_begins)) ≡ Err e →
        IsTypingCode e.code
    by true q = absurd cc
    by false q = subst IsTypingCode (ap (code_or 135) q) refl

finished_typing : (names : Names) (r : Result (Unit {0} × State) Fault) (e : Fault) → Fine Any r →
    finished names r ≡ Err e → IsTypingCode e.code
finished_typing names (Ok x) e h q =
    ended_typing names (earliest (last_faults x.1)) x.1 e (earliest_typing _ (last_typing x.1)) q
finished_typing names (Err f) e h q = subst IsTypingCode (ap (code_or f.code) q) (h.code f refl)

pub coded : (tokens : List Lexeme) (x : Syn) (code : ℕ) (place : Pos) → DerivesFile tokens x →
    RefusesSyntax x code place → IsTypingCode code
unfolding typing
coded tokens (node k t xs) code place (parses.file es) e =
    finished_typing (call_name (calls_in (node k t xs))) (all_externals (readings xs) beginning)
    (record { code = code; place = place }) ((externals_good es).at beginning) e
