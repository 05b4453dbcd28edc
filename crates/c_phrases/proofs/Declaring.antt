-- Declarators, their suffixes, and initializers.
use Rattle.std.proofs.Common.{◌≡◌, ℕ, zero, suc, ◌+◌, ◌≤◌, ◌<◌, max, Bool, true, false, List, [], ◌∷◌, ◌++◌, length}
use Rattle.std.proofs.Common.{Option, Some, None, Result, Ok, Err, MatchResult, IfOk, refl, ap, sym, subst, ◌∙◌, arith}
use Rattle.std.specs.Prelude.{if◌then◌else◌, ok_or, IfSome, IfNone, IfErr}
use Rattle.ck_base.specs.Tokens.{Lexeme}
use Rattle.c_tree.specs.declared.syntax.Node.{Node}
use Rattle.c_tree.specs.declared.syntax.NodeKind.{NodeKind}
use Rattle.c_tree.specs.declared.syntax.NodeKind.TheVariants as Kinds
use Rattle.c_tree.specs.declared.syntax.Symbol.{Symbol}
use Rattle.c_tree.specs.Syntax.{Syn, Syns, node, nil, more, one, then_one, own_token, first_token, first_of_parts}
use Rattle.c_tree.specs.Syntax.{height, highest}
use Rattle.c_tree.specs.Symbols.{symbol}
use Rattle.c_tree.specs.Grammar.{Goal, Expression, Declarator, Parameter, Initializer, is_word, declared_names}
use Rattle.c_tree.specs.Grammar.{names_of_first}
use Rattle.c_tree.specs.Grammar as Grammar
use Rattle.c_phrases.specs.declared.cursor.Cursor.{Cursor}
use Rattle.c_phrases.specs.declared.cursor.Root.{Root}
use Rattle.c_phrases.specs.declared.cursor.Part.{Part}
use Rattle.c_phrases.specs.declared.cursor.Parts.{Parts}
use Rattle.c_phrases.specs.declared.cursor.Stop.{Stop}
use Rattle.c_phrases.specs.declared.cursor.Stop.TheVariants.{NoMemory, NoTree}
use Rattle.c_phrases.specs.Reading
use Rattle.c_phrases.specs.Reading.{◌>>=◌, Names, Parsed, ParsedParts, Reader, expect, bracketed, listed}
use Rattle.c_phrases.specs.Reading.{listed_in_braces, starts, past, parts_of, begins_declarator, is_open_bracket}
use Rattle.c_phrases.specs.Reading.{is_close_bracket, is_open_parenthesis, is_close_parenthesis, is_open_brace}
use Rattle.c_phrases.specs.Reading.{is_close_brace, is_star}
use Rattle.c_phrases.specs.Got.{IsPlaceOf, Describes, Means, MeansOption, missing, there, Holds, Grows, Made, Got}
use Rattle.c_phrases.specs.Got.{GotCore, Fails, Reads, Paid, Owed, names_of, encloses, rest_of, after}
use Rattle.c_phrases.specs.Steps.{IsSpecifying, specified_from}
use Rattle.c_phrases.specs.Runs.{grown, qualifiers_node}
use Rattle.c_phrases.specs.Suffixes.{height_of, BeginsSuffix, IsTooHigh, next_from, suffixed, Suffixes, HasPaid}
use Rattle.c_phrases.specs.Suffixes.{unmoved}
use Rattle.c_phrases.specs.Suffixes.{moved}
use Rattle.c_phrases.proofs.Made.{grows_on, grows_same, grows_to, means_on, holds_more, highest_joined, then_is}
use Rattle.c_phrases.proofs.Made.{else_is}
use Rattle.c_phrases.proofs.Made.{bind_is, fails_same, fails_bind, fails_after}
use Rattle.c_phrases.proofs.Productions.{bind_bind}
use Rattle.c_phrases.proofs.Climbing.{grows_from, shut_le}

-- Parts that may be missing

pub there_at : {ns : List Node} {o : Option Part} {x : Option Syn} {part : Part} → MeansOption ns o x → o ≡ Some part →
    (y : Syn) × (x ≡ Some y) × Means ns part y
there_at missing e = cc
there_at {ns} {part = part} (there {part = p} {x = y} m) e =
    let out : Option Part → Part = elim [ None ↦ p | Some q ↦ q ] in
    (y, refl, subst (λ v. Means ns v y) (ap out e) m)

pub option_at : {a b : List Node} {o : Option Part} {x : Option Syn} → b ≡ a → MeansOption a o x → MeansOption b o x
option_at {o = o} {x} e m = subst (λ v. MeansOption v o x) (sym e) m

option_on : {a b : List Node} {o : Option Part} {x : Option Syn} → Grows a b → MeansOption a o x → MeansOption b o x
option_on g missing = missing
option_on g (there m) = there (means_on g m)

height_means : {ns : List Node} {o : Option Part} {x : Option Syn} → MeansOption ns o x →
    height_of o ≡ highest (parts_of x)
height_means missing = refl
height_means (there m) = let t = m.tall in omega arith

pub names_there : {ns : List Node} {o : Option Part} {x : Option Syn} {part : Part} → MeansOption ns o x →
    o ≡ Some part → names_of part.root ≡ names_of_first (parts_of x)
names_there m e = let f = there_at m e in sym (ap (λ v. names_of_first (parts_of v)) f.1 ∙ sym f.2.root.names)

pub with_there : {ns : List Node} {o : Option Part} {part other : Part} {parts : Parts} (r : Result Parts Stop) →
    ((x : Syn) → Means ns part x → Holds ns parts (one x)) → o ≡ Some other →
    IfOk r (λ p. p.kids.items ≡ parts.kids.items ++ (other.number ∷ [])) →
    IfOk r (λ p. p.height ≡ max parts.height other.height) → IfErr r (λ e. e ≡ NoMemory) →
    MatchResult r (λ p. (x : Syn) (y : Option Syn) → Means ns part x → MeansOption ns o y →
    Holds ns p (more x (parts_of y))) (λ e. e ≡ NoMemory)
with_there {ns} (Ok p) first is kids tall full =
    λ x y m n. let f = there_at n is in
    subst (λ v. Holds ns p (more x (parts_of v))) (sym f.1) (holds_more (first x m) f.2 kids tall)
with_there (Err e) first is kids tall full = full

-- Nodes

pub made_as : {old new : List Node} {root : Root} {parts : Parts} {part : Part} {k : NodeKind} {t : Lexeme}
    {xs : Syns} → Made old new root parts part → Describes root (node k t xs) → Holds old parts xs →
    Means new part (node k t xs)
made_as {new = new} {root} {part = part} {t = t} {xs} made d h =
    subst (λ v. Describes root (node v t xs) → Means new part (node v t xs)) d.kind (λ e. made.means t xs e h) d

pub made_got : (mid : Cursor) {old new : Cursor} {read : Parsed} {root : Root} {parts : Parts} {part : Part}
    {k : NodeKind} {t : Lexeme} {xs : Syns} → Grows old.nodes.items mid.nodes.items →
    Made mid.nodes.items new.nodes.items root parts part →
    Describes root (node k t xs) → Holds mid.nodes.items parts xs → read ≡ Some (node k t xs, rest_of new) →
    Got old new read part
made_got mid {k = k} {t} {xs} before made d h reads =
    record { tree = node k t xs; means = made_as made d h; reads = reads; grows = grows_on before made.grows }

-- Tests of the first token

first_is : {ts r : List Lexeme} {t : Lexeme} {b : Bool} (test : Symbol → Bool) → ts ≡ t ∷ r → starts test ts ≡ b →
    test (symbol t) ≡ b
first_is test e f = sym (ap (λ v. starts test v) e) ∙ f

pub bracketed_is : (rec : Reader) (g : Goal) (closes : Symbol → Bool) (types : Names) (ts : List Lexeme)
    {q r : List Lexeme} {y : Syn} → rec g types ts ≡ Some (y, q) → expect closes q ≡ Some r →
    bracketed rec g closes types ts ≡ Some (y, r)
bracketed_is rec g closes types ts {y = y} e f =
    bind_is (λ a. expect closes a.1 >>= λ rest. Some (a.0, rest)) e ∙ bind_is (λ rest. Some (y, rest)) f

pub bracketed_fails : (rec : Reader) (g : Goal) (closes : Symbol → Bool) (types : Names) (ts : List Lexeme)
    {q : List Lexeme} {y : Syn} (e : Stop) → rec g types ts ≡ Some (y, q) → Fails e (expect closes q) →
    Fails e (bracketed rec g closes types ts)
bracketed_fails rec g closes types ts {q} {y} e same f =
    fails_after e (rec g types ts) (y, q) (λ a. expect closes a.1 >>= λ rest. Some (a.0, rest)) same
    (fails_bind e (expect closes q) (λ rest. Some (y, rest)) f)

after_nil : (o : ParsedParts) → after nil o ≡ o
after_nil None = refl
after_nil (Some a) = refl

-- What suffixes begin with

pub begins_there : {ns : List Node} {o : Option Part} {x : Option Syn} {part : Part} {root : Root} {k : NodeKind}
    {t : Lexeme} → MeansOption ns o x → o ≡ Some part →
    root.kind ≡ k → IsPlaceOf root.own t → root.first ≡ part.root.first → names_of root ≡ names_of part.root →
    BeginsSuffix root k t x
begins_there {x = x} {root = root} {t = t} m e kind own first names =
    let f = there_at m e in
    record {
      kind = kind;
      own = own;
      first = subst (λ v. IsPlaceOf root.first (first_of_parts t (parts_of v))) (sym f.1)
          (subst (λ v. IsPlaceOf v (first_token f.0)) (sym first) f.2.root.first);
      names = names ∙ names_there m e;
    }

pub begins_open : {root : Root} {t : Lexeme} (x : Option Syn) → BeginsSuffix root Kinds.OpenArray t x →
    Describes root (node Kinds.OpenArray t (parts_of x))
begins_open x b = record { kind = b.kind; own = b.own; first = b.first; names = b.names }

pub begins_array : {root : Root} {t : Lexeme} (x : Option Syn) (y : Syn) → BeginsSuffix root Kinds.Array t x →
    Describes root (node Kinds.Array t (then_one (parts_of x) y))
begins_array None y b = record { kind = b.kind; own = b.own; first = b.first; names = b.names }
begins_array (Some z) y b = record { kind = b.kind; own = b.own; first = b.first; names = b.names }

pub begins_function : {root : Root} {t : Lexeme} (x : Option Syn) (y : Syn) → BeginsSuffix root Kinds.Function t x →
    Describes root (node Kinds.Function t (then_one (parts_of x) y))
begins_function None y b = record { kind = b.kind; own = b.own; first = b.first; names = b.names }
begins_function (Some z) y b = record { kind = b.kind; own = b.own; first = b.first; names = b.names }

-- Suffixes that are too high

none_if : {A : Type 0} (b : Bool) {p q : Option A} → p ≡ None → q ≡ None → (if b then p else q) ≡ None
none_if true e f = e
none_if false e f = f

none_bind : {A B : Type 0} (o : Option A) (f : A → Option B) → ((x : A) → f x ≡ None) → (o >>= f) ≡ None
none_bind None f e = refl
none_bind (Some x) f e = e x

grow_none : (rec : Reader) (h : ℕ) (x : Syn) (ts : List Lexeme) → h < height x → Reading.grow rec h x ts ≡ None
grow_none rec h x ts lt = else_is (Some (x, ts)) (shut_le (height x) h lt)

fails_high : {A : Type 0} {o : Option A} (e : Stop) (below : ℕ) (x : Option Syn) → IsTooHigh e below x →
    (below < highest (parts_of x) → o ≡ None) → Fails e o
fails_high NoMemory below x high k = tt
fails_high NoTree below x high k = k high

module _ (rec : Reader) (below : ℕ) (x : Option Syn) (o : Lexeme) (types : Names) (ts : List Lexeme) where
  pub array_high : (e : Stop) → IsTooHigh e below x → Fails e (Reading.array_from rec (suc below) x o types ts)
  unfolding Reading.array_from
  array_high e high = fails_high e below x high (λ lt. none_if (starts is_close_bracket ts)
      (grow_none rec (suc below) (node Kinds.OpenArray o (parts_of x)) (past ts) (omega arith))
      (none_bind (bracketed rec (Expression 2) is_close_bracket types ts)
      (λ b. Reading.grow rec (suc below) (node Kinds.Array o (then_one (parts_of x) b.0)) b.1)
      (λ b. grow_none rec (suc below) (node Kinds.Array o (then_one (parts_of x) b.0)) b.1
      (let j = highest_joined (parts_of x) (one b.0) in omega arith))))

  pub array_open : starts is_close_bracket ts ≡ true →
      Reading.array_from rec (suc below) x o types ts
      ≡ grown (suc below) (Some (node Kinds.OpenArray o (parts_of x), past ts))
  unfolding Reading.array_from
  array_open e = then_is _ e

  pub array_is : {y : Syn} {r : List Lexeme} → starts is_close_bracket ts ≡ false →
      bracketed rec (Expression 2) is_close_bracket types ts ≡ Some (y, r) →
      Reading.array_from rec (suc below) x o types ts
      ≡ grown (suc below) (Some (node Kinds.Array o (then_one (parts_of x) y), r))
  unfolding Reading.array_from
  array_is e f = else_is _ e
      ∙ bind_is (λ b. Reading.grow rec (suc below) (node Kinds.Array o (then_one (parts_of x) b.0)) b.1) f

  pub array_fails : (e : Stop) → starts is_close_bracket ts ≡ false →
      Fails e (bracketed rec (Expression 2) is_close_bracket types ts) →
      Fails e (Reading.array_from rec (suc below) x o types ts)
  unfolding Reading.array_from
  array_fails e shut f = fails_same e (else_is _ shut)
      (fails_bind e (bracketed rec (Expression 2) is_close_bracket types ts)
      (λ b. Reading.grow rec (suc below) (node Kinds.Array o (then_one (parts_of x) b.0)) b.1) f)

  pub function_high : (e : Stop) → IsTooHigh e below x → Fails e (Reading.function_from rec (suc below) x o types ts)
  unfolding Reading.function_from
  function_high e high = fails_high e below x high (λ lt.
      none_bind (listed rec Parameter types ts)
      (λ b. expect is_close_parenthesis b.1
      >>= λ rest. Reading.grow rec (suc below)
      (node Kinds.Function o (then_one (parts_of x) (node Kinds.Parameters o b.0))) rest)
      (λ b. none_bind (expect is_close_parenthesis b.1)
      (λ rest. Reading.grow rec (suc below) (node Kinds.Function o
      (then_one (parts_of x) (node Kinds.Parameters o b.0))) rest)
      (λ rest. grow_none rec (suc below) (node Kinds.Function o (then_one (parts_of x) (node Kinds.Parameters o b.0)))
      rest (let j = highest_joined (parts_of x) (one (node Kinds.Parameters o b.0)) in omega arith))))

  pub function_is : {ps : Syns} {q r : List Lexeme} → after nil (listed rec Parameter types ts) ≡ Some (ps, q) →
      expect is_close_parenthesis q ≡ Some r →
      Reading.function_from rec (suc below) x o types ts
      ≡ grown (suc below) (Some (node Kinds.Function o (then_one (parts_of x) (node Kinds.Parameters o ps)), r))
  unfolding Reading.function_from
  function_is {ps} e f =
      bind_is (λ b. expect is_close_parenthesis b.1
      >>= λ rest. Reading.grow rec (suc below)
      (node Kinds.Function o (then_one (parts_of x) (node Kinds.Parameters o b.0))) rest)
      (sym (after_nil (listed rec Parameter types ts)) ∙ e)
      ∙ bind_is (λ rest. Reading.grow rec (suc below)
      (node Kinds.Function o (then_one (parts_of x) (node Kinds.Parameters o ps))) rest) f

  pub function_unlisted : (e : Stop) → Fails e (after nil (listed rec Parameter types ts)) →
      Fails e (Reading.function_from rec (suc below) x o types ts)
  unfolding Reading.function_from
  function_unlisted e f = fails_bind e (listed rec Parameter types ts)
      (λ b. expect is_close_parenthesis b.1
      >>= λ rest. Reading.grow rec (suc below)
      (node Kinds.Function o (then_one (parts_of x) (node Kinds.Parameters o b.0))) rest)
      (fails_same e (sym (after_nil (listed rec Parameter types ts))) f)

  pub function_unclosed : {ps : Syns} {q : List Lexeme} (e : Stop) →
      after nil (listed rec Parameter types ts) ≡ Some (ps, q) → Fails e (expect is_close_parenthesis q) →
      Fails e (Reading.function_from rec (suc below) x o types ts)
  unfolding Reading.function_from
  function_unclosed {ps} {q} e same f =
      fails_after e (listed rec Parameter types ts) (ps, q)
      (λ b. expect is_close_parenthesis b.1
      >>= λ rest. Reading.grow rec (suc below)
      (node Kinds.Function o (then_one (parts_of x) (node Kinds.Parameters o b.0))) rest)
      (sym (after_nil (listed rec Parameter types ts)) ∙ same)
      (fails_bind e (expect is_close_parenthesis q)
      (λ rest. Reading.grow rec (suc below) (node Kinds.Function o
      (then_one (parts_of x) (node Kinds.Parameters o ps))) rest) f)

-- The next suffix

module _ (rec : Reader) (h : ℕ) (x : Option Syn) (types : Names) where
  pub next_array : {ts r : List Lexeme} {o : Lexeme} → ts ≡ o ∷ r → starts is_open_bracket ts ≡ true →
      next_from rec h x types ts ≡ (Reading.array_from rec h x o types r >>= λ b. Some (Some b.0, b.1))
  next_array e f = ap (λ v. next_from rec h x types v) e ∙ then_is _ (first_is is_open_bracket e f)

  pub next_function : {ts r : List Lexeme} {o : Lexeme} → ts ≡ o ∷ r → starts is_open_bracket ts ≡ false →
      starts is_open_parenthesis ts ≡ true →
      next_from rec h x types ts ≡ (Reading.function_from rec h x o types r >>= λ b. Some (Some b.0, b.1))
  next_function e f g = ap (λ v. next_from rec h x types v) e ∙ else_is _ (first_is is_open_bracket e f)
      ∙ then_is _ (first_is is_open_parenthesis e g)

  pub next_none : (ts : List Lexeme) → starts is_open_bracket ts ≡ false → starts is_open_parenthesis ts ≡ false →
      next_from rec h x types ts ≡ Some (None, ts)
  next_none [] e f = refl
  next_none (o ∷ ts) e f = else_is _ e ∙ else_is _ f

pub next_got : {old mid new : Cursor} {read : Parsed} {next : Option (Option Syn × List Lexeme)} {part : Part} →
    mid.nodes.items ≡ old.nodes.items → next ≡ (read >>= λ b. Some (Some b.0, b.1)) → Got mid new read part →
    GotCore old new next (Some part)
next_got nodes same g = record {
  tree = Some g.tree;
  means = there g.means;
  reads = same
      ∙ bind_is (λ b. Some (Some b.0, b.1)) g.reads;
  grows = grows_from nodes g.grows;
}

pub core_none : {old new : Cursor} {read : Option (Option Syn × List Lexeme)} → new.nodes.items ≡ old.nodes.items →
    rest_of new ≡ rest_of old → read ≡ Some (None, rest_of old) → GotCore old new read None
core_none nodes rest same =
    record {
      tree = None;
      means = missing;
      reads = same ∙ ap (λ v. Some (None, v)) (sym rest);
      grows = grows_to grows_same (sym nodes);
    }

-- The loop over suffixes

goes_on : Reader → ℕ → ℕ → Names → Option Syn → Option Syn × List Lexeme → Option (Option Syn × List Lexeme)
goes_on rec h k types x a = elim a.0 [ None ↦ Some (x, a.1) | Some y ↦ Reading.suffixes rec h k types (Some y) a.1 ]

suffixes_turn : (rec : Reader) (h k : ℕ) (types : Names) (x : Option Syn) (ts : List Lexeme) →
    Reading.suffixes rec h (suc k) types x ts ≡ (next_from rec h x types ts >>= λ a. goes_on rec h k types x a)
unfolding Reading.suffixes goes_on
suffixes_turn rec h k types x [] = refl
suffixes_turn rec h k types x (o ∷ ts) = go (is_open_bracket (symbol o)) (is_open_parenthesis (symbol o))
  where
    go : (b c : Bool) →
        (if b then (Reading.array_from rec h x o types ts >>= λ b. Reading.suffixes rec h k types (Some b.0) b.1)
        else (if c then (Reading.function_from rec h x o types ts
        >>= λ b. Reading.suffixes rec h k types (Some b.0) b.1) else Some (x, o ∷ ts)))
        ≡ ((if b then (Reading.array_from rec h x o types ts >>= λ b. Some (Some b.0, b.1))
        else (if c then (Reading.function_from rec h x o types ts >>= λ b. Some (Some b.0, b.1))
        else Some (None, o ∷ ts))) >>= λ a. goes_on rec h k types x a)
    go true c = sym (bind_bind (Reading.array_from rec h x o types ts) (λ b. Some (Some b.0, b.1))
        (λ a. goes_on rec h k types x a))
    go false true = sym (bind_bind (Reading.function_from rec h x o types ts) (λ b. Some (Some b.0, b.1))
        (λ a. goes_on rec h k types x a))
    go false false = refl

pub suffixes_begin : {now : Cursor} {below : ℕ} {types : Names} {x : Option Syn} {part : Option Part} →
    MeansOption now.nodes.items part x → Suffixes now now below types x part
suffixes_begin {below = below} {x = x} m =
    record { tree = x; means = m; turns = suc (suc below); enough = omega arith; same = refl; grows = grows_same }

pub suffixes_more : {old now next : Cursor} {below : ℕ} {types : Names} {x : Option Syn} {part : Option Part} {p : Part}
    (at : Suffixes old now below types x part) →
    height_of part ≤ suc below → height_of part < p.height →
    GotCore now next (next_from (Reading.read below) (suc below) at.tree types (rest_of now)) (Some p) →
    Suffixes old next below types x (Some p)
unfolding goes_on
suffixes_more {old} {now} {next} {below} {types} {x} {part} {p} at low taller sub =
    go at.turns at.enough at.same (there_at sub.means refl)
  where
    go : (k : ℕ) → suc (suc below) ≤ k + highest (parts_of at.tree) →
        Reading.suffixes (Reading.read below) (suc below) (suc (suc below)) types x (rest_of old)
        ≡ Reading.suffixes (Reading.read below) (suc below) k types at.tree (rest_of now) →
        (y : Syn) × (sub.tree ≡ Some y) × Means next.nodes.items p y → Suffixes old next below types x (Some p)
    go zero enough same f = let t = height_means at.means in absurd (omega arith)
    go (suc k) enough same f = record {
      tree = Some f.0;
      means = there f.2;
      turns = k;
      enough = let t = height_means at.means in let u = f.2.tall in omega arith;
      same = same ∙ suffixes_turn (Reading.read below) (suc below) k types at.tree (rest_of now)
          ∙ bind_is (λ a. goes_on (Reading.read below) (suc below) k types at.tree a)
          (sub.reads ∙ ap (λ v. Some (v, rest_of next)) f.1);
      grows = grows_on at.grows sub.grows;
    }

pub suffixes_fail : {old now : Cursor} {below : ℕ} {types : Names} {x : Option Syn} {part : Option Part} (e : Stop)
    (at : Suffixes old now below types x part) →
    height_of part ≤ suc below → Fails e (next_from (Reading.read below) (suc below) at.tree types (rest_of now)) →
    Fails e (suffixed (Reading.read below) (suc below) (suc (suc below)) types x (rest_of old))
suffixes_fail {old} {now} {below} {types} {x} {part} e at low why =
    fails_bind e (Reading.suffixes (Reading.read below) (suc below) (suc (suc below)) types x (rest_of old))
    (λ b. b.0 >>= λ y. Some (y, b.1)) (go at.turns at.enough at.same)
  where
    go : (k : ℕ) → suc (suc below) ≤ k + highest (parts_of at.tree) →
        Reading.suffixes (Reading.read below) (suc below) (suc (suc below)) types x (rest_of old)
        ≡ Reading.suffixes (Reading.read below) (suc below) k types at.tree (rest_of now) →
        Fails e (Reading.suffixes (Reading.read below) (suc below) (suc (suc below)) types x (rest_of old))
    go zero enough same = let t = height_means at.means in absurd (omega arith)
    go (suc k) enough same = fails_same e (same
        ∙ suffixes_turn (Reading.read below) (suc below) k types at.tree (rest_of now))
        (fails_bind e (next_from (Reading.read below) (suc below) at.tree types (rest_of now))
        (λ a. goes_on (Reading.read below) (suc below) k types at.tree a) why)

ends : (old new : Cursor) {o : Option Part} {x : Option Syn} {read : Parsed} (r : Result Part Stop) →
    MeansOption new.nodes.items o x → Grows old.nodes.items new.nodes.items →
    read ≡ (x >>= λ y. Some (y, rest_of new)) → r ≡ ok_or o NoTree → Reads old new read r
ends old new {read = read} r missing grows same e = subst (λ v. Reads old new read v) (sym e) same
ends old new {read = read} r (there {part = p} {x = y} m) grows same e =
    subst (λ v. Reads old new read v) (sym e) (record { tree = y; means = m; reads = same; grows = grows })

pub suffixes_end : {old now next : Cursor} {below : ℕ} {types : Names} {x : Option Syn} {part : Option Part}
    (at : Suffixes old now below types x part) (r : Result Part Stop) →
    height_of part ≤ suc below →
    GotCore now next (next_from (Reading.read below) (suc below) at.tree types (rest_of now)) None →
    r ≡ ok_or part NoTree →
    Reads old next (suffixed (Reading.read below) (suc below) (suc (suc below)) types x (rest_of old)) r
unfolding goes_on
suffixes_end {old} {now} {next} {below} {types} {x} {part} at r low sub e =
    ends old next r (option_on sub.grows at.means) (grows_on at.grows sub.grows)
    (bind_is (λ b. b.0 >>= λ y. Some (y, b.1)) (go at.turns at.enough at.same)) e
  where
    gone : {ns : List Node} {o : Option Part} {y : Option Syn} → MeansOption ns o y → o ≡ None → y ≡ None
    gone missing e = refl
    gone (there m) e = cc

    go : (k : ℕ) → suc (suc below) ≤ k + highest (parts_of at.tree) →
        Reading.suffixes (Reading.read below) (suc below) (suc (suc below)) types x (rest_of old)
        ≡ Reading.suffixes (Reading.read below) (suc below) k types at.tree (rest_of now) →
        Reading.suffixes (Reading.read below) (suc below) (suc (suc below)) types x (rest_of old)
        ≡ Some (at.tree, rest_of next)
    go zero enough same = let t = height_means at.means in absurd (omega arith)
    go (suc k) enough same = same ∙ suffixes_turn (Reading.read below) (suc below) k types at.tree (rest_of now)
        ∙ bind_is (λ a. goes_on (Reading.read below) (suc below) k types at.tree a)
        (sub.reads ∙ ap (λ v. Some (v, rest_of next)) (gone sub.means refl))

-- What the suffixes leave over

paid_from : {old mid new : Cursor} {over : ℕ} → rest_of mid ≡ rest_of old → mid.nodes.items ≡ old.nodes.items →
    Paid mid new over → Paid old new over
paid_from {old} {mid} {new} {over} rest nodes p =
    let r = ap length rest in let n = ap length nodes in let room = p.room in let shorter = p.shorter in
    let grows = p.grows in
    record { room = omega arith; shorter = omega arith; grows = omega arith }

pub paid_more : {old now next : Cursor} {start part other : Option Part} → HasPaid old now start part →
    Paid now next 4 → HasPaid old next start other
paid_more (unmoved same rest nodes) p = moved (paid_from rest nodes p)
paid_more (moved q) p =
    let r = p.room in let s = p.shorter in let g = p.grows in let r' = q.room in let s' = q.shorter in
    let g' = q.grows in
    moved (record { room = omega arith; shorter = omega arith; grows = omega arith })

pub paid_behind : (old at mid new : Cursor) (core : Option Part) (r : Result Part Stop) → rest_of at ≡ rest_of old →
    at.nodes.items ≡ old.nodes.items →
    IfSome core (λ _. Paid at mid 4) → IfNone core ((rest_of mid ≡ rest_of at) × (mid.nodes.items ≡ at.nodes.items)) →
    IfOk r (λ _. Owed mid new 0) → IfNone core (IfOk r (λ _. Paid mid new 4)) → IfOk r (λ _. Paid old new 4)
paid_behind old at mid new core (Err e) rest nodes some none owed paid = tt
paid_behind old at mid new (Some p) (Ok x) rest nodes some none owed paid =
    let a = some.room in let b = some.shorter in let c = some.grows in let a' = owed.room in let b' = owed.shorter in
    let c' = owed.grows in
    paid_from {mid = at} rest nodes (record { room = omega arith; shorter = omega arith; grows = omega arith })
paid_behind old at mid new None (Ok x) rest nodes some none owed paid =
    paid_from {mid = at} rest nodes (paid_from none.0 none.1 paid)

-- What stands before suffixes

module _ (rec : Reader) (h : ℕ) (m : Grammar.Naming) (types : Names) where
  pub core_empty : {ts : List Lexeme} → ts ≡ [] → Reading.core rec h m types ts ≡ None
  unfolding Reading.core
  core_empty e = ap (λ v. Reading.core rec h m types v) e

  pub core_name : {ts r : List Lexeme} {t : Lexeme} → ts ≡ t ∷ r → starts is_word ts ≡ true →
      Grammar.is_declared_by m types t ≡ true →
      Reading.core rec h m types ts ≡ Some (Some (node Kinds.DeclaredName t nil), r)
  unfolding Reading.core
  core_name e word named = ap (λ v. Reading.core rec h m types v) e ∙ then_is _ (first_is is_word e word)
      ∙ then_is _ named

  pub core_unnamed : {ts r : List Lexeme} {t : Lexeme} → ts ≡ t ∷ r → starts is_word ts ≡ true →
      Grammar.is_declared_by m types t ≡ false → Reading.core rec h m types ts ≡ None
  unfolding Reading.core
  core_unnamed e word named =
      ap (λ v. Reading.core rec h m types v) e ∙ then_is _ (first_is is_word e word) ∙ else_is _ named

  pub core_enclosed : {ts r : List Lexeme} {t : Lexeme} → ts ≡ t ∷ r → starts is_word ts ≡ false →
      encloses m types ts ≡ true →
      Reading.core rec h m types ts ≡ (Reading.enclosed_from rec h m t types r >>= λ a. Some (Some a.0, a.1))
  unfolding Reading.core
  core_enclosed e word closed =
      ap (λ v. Reading.core rec h m types v) e ∙ else_is _ (first_is is_word e word)
      ∙ then_is _ (sym (ap (λ v. encloses m types v) e) ∙ closed)

  pub core_nameless : {ts r : List Lexeme} {t : Lexeme} → ts ≡ t ∷ r → starts is_word ts ≡ false →
      encloses m types ts ≡ false → Grammar.may_be_nameless m ≡ true → Reading.core rec h m types ts ≡ Some (None, ts)
  unfolding Reading.core
  core_nameless e word closed nameless =
      ap (λ v. Reading.core rec h m types v) e ∙ else_is _ (first_is is_word e word)
      ∙ else_is _ (sym (ap (λ v. encloses m types v) e) ∙ closed) ∙ then_is _ nameless
      ∙ ap (λ v. Some (None, v)) (sym e)

  pub core_missing : {ts r : List Lexeme} {t : Lexeme} → ts ≡ t ∷ r → starts is_word ts ≡ false →
      encloses m types ts ≡ false → Grammar.may_be_nameless m ≡ false → Reading.core rec h m types ts ≡ None
  unfolding Reading.core
  core_missing e word closed nameless =
      ap (λ v. Reading.core rec h m types v) e ∙ else_is _ (first_is is_word e word)
      ∙ else_is _ (sym (ap (λ v. encloses m types v) e) ∙ closed) ∙ else_is _ nameless

  pub enclosed_is : (ts : List Lexeme) {r : List Lexeme} {o : Lexeme} {y : Syn} →
      bracketed rec (Declarator m) is_close_parenthesis types ts ≡ Some (y, r) →
      Reading.enclosed_from rec h m o types ts ≡ Some (node Kinds.ParenthesizedDeclarator o (one y), r)
  unfolding Reading.enclosed_from
  enclosed_is ts {o = o} e = bind_is (λ a. Some (node Kinds.ParenthesizedDeclarator o (one a.0), a.1)) e

  pub enclosed_fails : (ts : List Lexeme) (o : Lexeme) (e : Stop) →
      Fails e (bracketed rec (Declarator m) is_close_parenthesis types ts) →
      Fails e (Reading.enclosed_from rec h m o types ts)
  unfolding Reading.enclosed_from
  enclosed_fails ts o e f =
      fails_bind e (bracketed rec (Declarator m) is_close_parenthesis types ts)
      (λ a. Some (node Kinds.ParenthesizedDeclarator o (one a.0), a.1)) f

  -- Declarators

  pub declarator_empty : {ts : List Lexeme} → ts ≡ [] → Reading.declarator rec h m types ts ≡ None
  unfolding Reading.declarator
  declarator_empty e = ap (λ v. Reading.declarator rec h m types v) e

  pub declarator_direct : {r : List Lexeme} {x : Option Syn} (ts : List Lexeme) → starts is_star ts ≡ false →
      Reading.core rec h m types ts ≡ Some (x, r) →
      Reading.declarator rec h m types ts ≡ suffixed rec h (suc h) types x r
  unfolding Reading.declarator Reading.direct Reading.core
  declarator_direct [] star e = cc
  declarator_direct (t ∷ ts) star e =
      else_is _ star ∙ bind_is (λ a. Reading.suffixes rec h (suc h) types a.0 a.1 >>= λ b. b.0 >>= λ x. Some (x, b.1)) e

  pub declarator_fails : (ts : List Lexeme) (e : Stop) → starts is_star ts ≡ false →
      Fails e (Reading.core rec h m types ts) → Fails e (Reading.declarator rec h m types ts)
  unfolding Reading.declarator Reading.direct Reading.core
  declarator_fails [] NoMemory star f = tt
  declarator_fails [] NoTree star f = refl
  declarator_fails (t ∷ ts) e star f =
      fails_same e (else_is _ star) (fails_bind e (Reading.core rec h m types (t ∷ ts))
      (λ a. Reading.suffixes rec h (suc h) types a.0 a.1 >>= λ b. b.0 >>= λ x. Some (x, b.1)) f)

  pub declarator_pointer : {ts r : List Lexeme} {o : Lexeme} → ts ≡ o ∷ r → starts is_star ts ≡ true →
      Reading.declarator rec h m types ts ≡ Reading.pointer_from rec h m o types r
  unfolding Reading.declarator
  declarator_pointer e star = ap (λ v. Reading.declarator rec h m types v) e ∙ then_is _ (first_is is_star e star)

  pub pointer_is : (ts : List Lexeme) {r s : List Lexeme} {o : Lexeme} {q : Syn} {ds : Syns} →
      qualifiers_node o ts ≡ Some (q, r) → Reading.optional_declarator rec m types r ≡ Some (ds, s) →
      Reading.pointer_from rec h m o types ts ≡ Some (node Kinds.Pointer o (more q ds), s)
  unfolding Reading.pointer_from
  pointer_is ts {o = o} {q} e f =
      bind_is (λ p. Reading.optional_declarator rec m types p.1
      >>= λ d. Some (node Kinds.Pointer o (more p.0 d.0), d.1)) e
      ∙ bind_is (λ d. Some (node Kinds.Pointer o (more q d.0), d.1)) f

  pub pointer_fails : (ts : List Lexeme) {r : List Lexeme} {o : Lexeme} {q : Syn} (e : Stop) →
      qualifiers_node o ts ≡ Some (q, r) → Fails e (Reading.optional_declarator rec m types r) →
      Fails e (Reading.pointer_from rec h m o types ts)
  unfolding Reading.pointer_from
  pointer_fails ts {r} {o} {q} e same f =
      fails_after e (qualifiers_node o ts) (q, r)
      (λ p. Reading.optional_declarator rec m types p.1 >>= λ d. Some (node Kinds.Pointer o (more p.0 d.0), d.1))
      same
      (fails_bind e (Reading.optional_declarator rec m types r) (λ d. Some (node Kinds.Pointer o (more q d.0), d.1)) f)

module _ (rec : Reader) (m : Grammar.Naming) (types : Names) (ts : List Lexeme) where
  pub optional_is : {y : Syn} {r : List Lexeme} → starts begins_declarator ts ≡ true →
      rec (Declarator m) types ts ≡ Some (y, r) → Reading.optional_declarator rec m types ts ≡ Some (one y, r)
  unfolding Reading.optional_declarator
  optional_is e f = then_is _ e ∙ bind_is (λ d. Some (one d.0, d.1)) f

  pub optional_fails : (e : Stop) → starts begins_declarator ts ≡ true → Fails e (rec (Declarator m) types ts) →
      Fails e (Reading.optional_declarator rec m types ts)
  unfolding Reading.optional_declarator
  optional_fails e begins f =
      fails_same e (then_is _ begins) (fails_bind e (rec (Declarator m) types ts) (λ d. Some (one d.0, d.1)) f)

  pub optional_none : starts begins_declarator ts ≡ false → Grammar.may_be_nameless m ≡ true →
      Reading.optional_declarator rec m types ts ≡ Some (nil, ts)
  unfolding Reading.optional_declarator
  optional_none e f = else_is _ e ∙ then_is _ f

  pub optional_missing : starts begins_declarator ts ≡ false → Grammar.may_be_nameless m ≡ false →
      Reading.optional_declarator rec m types ts ≡ None
  unfolding Reading.optional_declarator
  optional_missing e f = else_is _ e ∙ else_is _ f

-- Specifiers and a declarator

specifying_first : (k : NodeKind) → IsSpecifying k → (t : Lexeme) (xs : Syns) → first_token (node k t xs) ≡ t
specifying_first Kinds.Parameter p t xs = refl
specifying_first Kinds.TypeName p t xs = refl
specifying_first _ p t xs = absurd p

specifying_names : (k : NodeKind) → IsSpecifying k → (t : Lexeme) (xs : Syns) → declared_names (node k t xs) ≡ []
specifying_names Kinds.Parameter p t xs = refl
specifying_names Kinds.TypeName p t xs = refl
specifying_names _ p t xs = absurd p

pub specifying_root : {root : Root} (k : NodeKind) (t : Lexeme) (xs : Syns) → IsSpecifying k → root.kind ≡ k →
    IsPlaceOf root.own t → IsPlaceOf root.first t → names_of root ≡ [] → Describes root (node k t xs)
specifying_root {root} k t xs p kind own first names =
    record {
      kind = kind;
      own = own;
      first = subst (λ v. IsPlaceOf root.first v) (sym (specifying_first k p t xs)) first;
      names =
          names ∙ sym (specifying_names k p t xs);
    }

pub specified_is : (rec : Reader) (k : NodeKind) (m : Grammar.Naming) (types : Names) (ts : List Lexeme)
    {r q : List Lexeme} {s : Syn} {ds : Syns} → Reading.specifiers rec types ts ≡ Some (s, r) →
    Reading.optional_declarator rec m types r ≡ Some (ds, q) →
    specified_from rec k m types ts ≡ Some (node k (own_token s) (more s ds), q)
specified_is rec k m types ts {s = s} e f =
    bind_is (λ a. Reading.optional_declarator rec m types a.1
    >>= λ d. Some (node k (own_token a.0) (more a.0 d.0), d.1)) e
    ∙ bind_is (λ d. Some (node k (own_token s) (more s d.0), d.1)) f

-- Initializers

module _ (rec : Reader) (h : ℕ) (types : Names) where
  pub initializer_plain : (ts : List Lexeme) → starts is_open_brace ts ≡ false →
      Reading.initializer rec h types ts ≡ Reading.expression rec h 1 types ts
  unfolding Reading.initializer Reading.expression Reading.operand
  initializer_plain [] e = refl
  initializer_plain (t ∷ ts) e = else_is _ e

  pub initializer_braces : {ts r : List Lexeme} {t : Lexeme} → ts ≡ t ∷ r → is_open_brace (symbol t) ≡ true →
      Reading.initializer rec h types ts ≡ Reading.braces_from rec h t types r
  unfolding Reading.initializer
  initializer_braces e f = ap (λ v. Reading.initializer rec h types v) e ∙ then_is _ f

  pub braces_empty : (ts : List Lexeme) {o : Lexeme} → starts is_close_brace ts ≡ true →
      Reading.braces_from rec h o types ts ≡ Some (node Kinds.BracedInitializer o nil, past ts)
  unfolding Reading.braces_from
  braces_empty ts e = then_is _ e

  pub braces_is : (ts : List Lexeme) {r : List Lexeme} {o : Lexeme} {xs : Syns} → starts is_close_brace ts ≡ false →
      after nil (listed_in_braces rec Initializer types ts) ≡ Some (xs, r) →
      Reading.braces_from rec h o types ts ≡ Some (node Kinds.BracedInitializer o xs, r)
  unfolding Reading.braces_from
  braces_is ts {o = o} e f =
      else_is _ e ∙ bind_is (λ a. Some (node Kinds.BracedInitializer o a.0, a.1))
      (sym (after_nil (listed_in_braces rec Initializer types ts)) ∙ f)

  pub braces_fail : (ts : List Lexeme) (o : Lexeme) (e : Stop) → starts is_close_brace ts ≡ false →
      Fails e (after nil (listed_in_braces rec Initializer types ts)) → Fails e (Reading.braces_from rec h o types ts)
  unfolding Reading.braces_from
  braces_fail ts o e shut f =
      fails_same e (else_is _ shut) (fails_bind e (listed_in_braces rec Initializer types ts)
      (λ a. Some (node Kinds.BracedInitializer o a.0, a.1))
      (fails_same e (sym (after_nil (listed_in_braces rec Initializer types ts))) f))
