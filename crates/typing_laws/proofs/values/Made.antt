-- What typing sees to while it makes expressions: where a value is asked for, a place has been read.
use Rattle.std.proofs.Common.{◌≡◌, Bool, true, false, refl, ap, List, [], ◌∷◌, ◌++◌, length}
use Rattle.std.specs.Prelude.{not, if◌then◌else◌}
use Rattle.c_tree.specs.Conversions.{designates, value_term, converted_term}
use Rattle.c_tree.specs.Expressions.{is_shift}
use Rattle.c_tree.specs.Terms as tree
use Rattle.c_tree.specs.Terms.{Shape, Term, Terms, term, no_terms, with_term, type_of, pos_of, step, Action, Actions}
use Rattle.c_tree.specs.Terms.{Form, action, actions, no_actions, with_action}
use Rattle.c_tree.specs.Types.{Ty, Array, Function, bare, same, is_function}
use Rattle.typing_laws.specs.Valued.{asks_place, AreOnce, Begins, FirstBegin, IsComputed}

-- no place, and no function
abbrev pub is_read : Term → Bool
is_read (term (tree.Fun k) xs t p) = not (is_function t)
is_read x = not (designates x)

-- a member may be taken of a place or a value
abbrev pub first_free : Shape → Bool
first_free (tree.Member k) = true
first_free x = asks_place x

abbrev pub ShapeMade : Shape → Type 0
ShapeMade (tree.Capability o from_right) = from_right ≡ true → is_shift o ≡ false
ShapeMade (tree.Compound o of) = IsComputed of
ShapeMade x = Unit {0}

abbrev mutual
  pub TermMade : Term → Type 0
  TermMade (term x xs t p) = ShapeMade x × TermsMade (first_free x) xs

  pub TermsMade : Bool → Terms → Type 0
  TermsMade b no_terms = Unit {0}
  TermsMade true (with_term x xs) = TermMade x × TermsMade false xs
  TermsMade false (with_term x xs) = (TermMade x × (is_read x ≡ true)) × TermsMade false xs

-- one that has been read
abbrev pub TermWorth : Term → Type 0
TermWorth x = TermMade x × (is_read x ≡ true)

abbrev pub FormMade : Form → Actions → Type 0
FormMade (tree.Switch vars ls) ys = AreOnce ls
FormMade (tree.For vars n a b) ys = FirstBegin n ys
FormMade x ys = Unit {0}

abbrev mutual
  pub ActionMade : Action → Type 0
  ActionMade (action x xs ys p) = FormMade x ys × TermsMade false xs × ActionsMade ys

  pub ActionsMade : Actions → Type 0
  ActionsMade no_actions = Unit {0}
  ActionsMade (with_action x xs) = ActionMade x × ActionsMade xs

-- what a declaration does
abbrev pub InitsMade : List Action → Type 0
InitsMade [] = Unit {0}
InitsMade (x ∷ xs) = (Begins x × ActionMade x) × InitsMade xs

pub inits_are : (xs : List Action) → InitsMade xs → ActionsMade (actions xs)
inits_are [] h = tt
inits_are (x ∷ xs) h = (h.0.1, inits_are xs h.1)

pub inits_append : (xs ys : List Action) → InitsMade xs → InitsMade ys → InitsMade (xs ++ ys)
inits_append [] ys h k = k
inits_append (x ∷ xs) ys h k = (h.0, inits_append xs ys h.1 k)

pub inits_begin : (xs ys : List Action) → InitsMade xs → FirstBegin (length xs) (actions (xs ++ ys))
inits_begin [] ys h = tt
inits_begin (x ∷ xs) ys h = (h.0.0, inits_begin xs ys h.1)

pub actions_append : (xs ys : List Action) → ActionsMade (actions xs) → ActionsMade (actions ys) →
    ActionsMade (actions (xs ++ ys))
actions_append [] ys h k = k
actions_append (x ∷ xs) ys h k = (h.0, actions_append xs ys h.1 k)

-- ---- reading and converting

pub if_worth : (b : Bool) (x y : Term) → TermWorth x → TermWorth y → TermWorth (if b then x else y)
if_worth true x y h g = h
if_worth false x y h g = g

load_or : (x : Term) → TermMade x → is_read x ≡ not (designates x) →
    TermWorth (if designates x then step tree.Load x (bare (type_of x)) (pos_of x) else x)
load_or x h e = by (designates x) e
  where
    by : (b : Bool) → is_read x ≡ not b →
        TermWorth (if b then step tree.Load x (bare (type_of x)) (pos_of x) else x)
    by true e = ((tt, (h, tt)), refl)
    by false e = (h, e)

settled : (x : Term) → TermMade x → is_function (type_of x) ≡ false →
    TermWorth (if designates x then step tree.Load x (bare (type_of x)) (pos_of x) else x)
settled (term (tree.Fun k) xs t p) h e = (h, ap not e)
settled x h e = load_or x h refl

pub value_made : (x : Term) → TermMade x → TermWorth (value_term x)
value_made (term n xs (Array e k) p) h = ((tt, (h, tt)), refl)
value_made (term n xs (Function r ps) p) h = ((tt, (h, tt)), refl)
value_made x h = settled x h refl

pub converted_made : (t : Ty) (x : Term) → TermWorth x → TermWorth (converted_term t x)
converted_made t x h = if_worth (same (type_of x) t) x _ h ((tt, (h, tt)), refl)
