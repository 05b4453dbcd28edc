-- Members and parameters.
use Rattle.std.proofs.Common.{◌≡◌, ℕ, suc, ◌<◌, ◌≤◌, Bool, true, false, cond, List, [], ◌∷◌, ◌++◌, length, Option, Some}
use Rattle.std.proofs.Common.{None, Err, refl, sym, ap, ◌∙◌, arith}
use Rattle.std.specs.Prelude.{not, ◌&&◌, ◌||◌, ◌==◌, bytes_eq, reverse, is_none, is_some}
use Rattle.std.specs.List.{list_any}
use Rattle.std.proofs.lemmas.Bool.{ne_eqb}
use Rattle.std.proofs.lemmas.List.{length-reverse}
use Rattle.std.proofs.lemmas.List.Elements.{All-push}
use Rattle.ck_base.specs.Tokens.{Lexeme}
use Rattle.c_tree.specs.declared.typed.Member.{Member}
use Rattle.c_tree.specs.Types.{Ty, Void, adjusted, is_function, is_void}
use Rattle.c_tree.specs.Scopes as meant_scopes
use Rattle.c_tree.specs.Scopes.{Part, State, give, is_complete, ◌>>◌}
use Rattle.c_tree.specs.Readings as meant
use Rattle.c_tree.specs.Declarators as meant_types
use Rattle.c_tree.specs.Declarators.{has_part, formed, judge, is_nothing, is_free, place_of, parameter_from}
use Rattle.c_types.specs.declared.scopes.Scope.{Scope}
use Rattle.c_types.specs.Stands.{text_at}
use Rattle.c_expressions.specs.Nodes.{type_count}
use Rattle.c_elaborator.specs.declared.work.Work.{Work}
use Rattle.c_elaborator.specs.Answers.{Keeps}
use Rattle.c_elaborator.specs.declared.work.Name.{Name}
use Rattle.c_declarators.specs.declared.members.Members.{Members}
use Rattle.c_declarators.specs.declared.parts.Derived.{Derived}
use Rattle.c_declarators.specs.declared.parts.Wrap.{Wrap}
use Rattle.c_declarators.specs.Parts.{IsMember, AreMembers, MembersThere, AllMembersThere, AreWraps, IsDerived}
use Rattle.c_declarators.specs.Parts.{any_scope, has_name, name_token}
use Rattle.c_declarators.specs.Steps.{named_member, has_no_parts}
use Rattle.c_declarators.proofs.Making.{All_weaker}

-- ---- members

pub has_part_is : (w : Work) (ms : List Member) (xs : List Part) (name : List ℕ) → AreMembers w ms xs →
    has_part xs name ≡ list_any (λ (m : Member). bytes_eq (text_at w.file.now m.name) name) ms
has_part_is w [] [] name h = refl
has_part_is w [] (x ∷ xs) name h = absurd h
has_part_is w (m ∷ ms) [] name h = absurd h
has_part_is w (m ∷ ms) (x ∷ xs) name h =
    ap (λ t. bytes_eq t name || has_part xs name) h.0.text
    ∙ ap (λ b. bytes_eq (text_at w.file.now m.name) name || b) (has_part_is w ms xs name h.1)

pub members_kept : (u v : Work) (ms : List Member) (xs : List Part) → Keeps u v → MembersThere u ms →
    AreMembers u ms xs → AreMembers v ms xs
members_kept u v [] [] k t h = tt
members_kept u v [] (x ∷ xs) k t h = absurd h
members_kept u v (m ∷ ms) [] k t h = absurd h
members_kept u v (m ∷ ms) (x ∷ xs) k t h =
    let lt : m.of < type_count u.nodes = t 0 m (omega arith) in (
      record {
        text = h.0.text ∙ ap (λ f. text_at f m.name) (sym k.file);
        span = h.0.span;
        of = h.0.of
            ∙ sym (k.types m.of lt);
      },
      members_kept u v ms xs k (λ i d l. t (suc i) d (omega arith)) h.1,
    )

pub members_push : (w : Work) (ms : List Member) (xs : List Part) (m : Member) (x : Part) → AreMembers w ms xs →
    IsMember w m x → AreMembers w (ms ++ m ∷ []) (xs ++ x ∷ [])
members_push w [] [] m x h i = (i, tt)
members_push w [] (y ∷ ys) m x h i = absurd h
members_push w (n ∷ ms) [] m x h i = absurd h
members_push w (n ∷ ms) (y ∷ ys) m x h i = (h.0, members_push w ms ys m x h.1 i)

or_swapped : (a b c : Bool) → (a || (b || c)) ≡ (b || (a || c))
or_swapped true true c = refl
or_swapped true false c = refl
or_swapped false b c = refl

any_push : {A : Type 0} (p : A → Bool) (xs : List A) (x : A) → (p x || list_any p xs) ≡ list_any p (xs ++ x ∷ [])
any_push p [] x = refl
any_push p (y ∷ ys) x = or_swapped (p x) (p y) (list_any p ys) ∙ ap (λ b. p y || b) (any_push p ys x)

-- what is found once one more is put in front
pub found_first : {A : Type 0} (b : Bool) (x : A) (o : Option A) → is_some (cond b (Some x) o) ≡ (b || is_some o)
found_first true x o = refl
found_first false x o = refl

-- members so far are there when the work has grown
pub all_members_kept : (u v : Work) (a : Members) → Keeps u v → AllMembersThere u a → AllMembersThere v a
all_members_kept u v a k h = record {
  there = All_weaker (λ (m : Member). m.of < type_count u.nodes) (λ (m : Member). m.of < type_count v.nodes) a.all.items
      (λ m lt. let e : type_count u.nodes ≤ type_count v.nodes = k.more_types in omega arith) h.there;
  names = λ text. h.names text
      ∙ ap (λ f. list_any (λ (m : Member). bytes_eq (text_at f m.name) text) a.all.items) (sym k.file);
}

-- with one more member and its name
pub all_members_push : (w : Work) (a b : Members) (m : Member) → AllMembersThere w a → m.of < type_count w.nodes →
    b.all.items ≡ a.all.items ++ m ∷ [] →
    ((text : List ℕ) → has_name b text ≡ (bytes_eq (text_at w.file.now m.name) text || has_name a text)) →
    AllMembersThere w b
all_members_push w a b m h lt e n = record {
  there = rw e (All-push (λ (d : Member). d.of < type_count w.nodes) a.all.items m h.there lt);
  names = λ text. n text ∙ ap (λ c. bytes_eq (text_at w.file.now m.name) text || c) (h.names text)
      ∙ any_push (λ (d : Member). bytes_eq (text_at w.file.now d.name) text) a.all.items m
      ∙ ap (list_any (λ (d : Member). bytes_eq (text_at w.file.now d.name) text)) (sym e);
}

pub member_again : (s : State) (of : Ty) (ws : List meant.Wrap) (t : Lexeme) (ms : List Part) →
    has_part ms t.text ≡ true → named_member of ws t ms s ≡ Err (record { code = 131; place = t.pos })
member_again s of ws t ms b = rw b refl

pub member_step : (s : State) (of : Ty) (ws : List meant.Wrap) (t : Lexeme) (ms : List Part) (f : meant_types.Formed)
    (l m : Bool) → formed s of ws ≡ f → has_part ms t.text ≡ false → l ≡ not (is_function f.of || is_complete s f.of) →
    m ≡ is_function f.of →
    named_member of ws t ms s ≡ (judge f l m t.pos >> give (ms ++ record { name = t; of = f.of } ∷ [])) s
member_step s of ws t ms f l m e b p q = rw (e, b, p, q) refl

-- ---- parameters

is_empty : List meant.Wrap → Bool
is_empty [] = true
is_empty (w ∷ ws) = false

-- `void` alone, by its parts
by_parts : (only : Bool) (name : Option Lexeme) (ws : List meant.Wrap) (t : Ty) →
    is_nothing only name ws t ≡ (only && ((is_none name && is_empty ws) && is_void t))
unfolding is_empty
by_parts true None [] Void = refl
by_parts true None [] _ = refl
by_parts true None (w ∷ ws) t = refl
by_parts true (Some n) ws t = refl
by_parts false None [] Void = refl
by_parts false None [] _ = refl
by_parts false None (w ∷ ws) t = refl
by_parts false (Some n) ws t = refl

empty_is : (ws : List meant.Wrap) → is_empty ws ≡ (length ws == 0)
unfolding is_empty
empty_is [] = refl
empty_is (w ∷ ws) = sym (ne_eqb (length (w ∷ ws)) 0 (λ e. omega arith))

as_many : (R : Scope → meant_scopes.Scope → Type 0) (w : Work) (vs : List Wrap) (bs : List meant.Wrap) →
    AreWraps R w vs bs → length bs ≡ length vs
as_many R w [] [] h = refl
as_many R w [] (b ∷ bs) h = absurd h
as_many R w (a ∷ vs) [] h = absurd h
as_many R w (a ∷ vs) (b ∷ bs) h = ap suc (as_many R w vs bs h.1)

token_none : (w : Work) (n : Option Name) → is_none (name_token w n) ≡ is_none n
token_none w None = refl
token_none w (Some n) = refl

pub nothing_is : (w : Work) (only : Bool) (d : Derived) (y : meant.Derived) (t : Ty) → IsDerived any_scope w d y →
    is_nothing only y.name y.wraps t ≡ (only && (has_no_parts d && is_void t))
nothing_is w only d y t h =
    let e : is_none y.name ≡ is_none d.name = ap is_none h.name ∙ token_none w d.name in
    let n : length y.wraps ≡ length d.wraps.items =
    as_many any_scope w (reverse d.wraps.items) y.wraps h.wraps ∙ length-reverse d.wraps.items in
    by_parts only y.name y.wraps t ∙ rw (e, empty_is y.wraps, n) refl

pub parameter_step : (s : State) (only : Bool) (x : meant.Specified) (t : Lexeme) (y : meant.Derived)
    (f : meant_types.Formed) (of : Ty) (at : Lexeme) (z : Bool) →
    formed s x.of y.wraps ≡ f → adjusted f.of ≡ of → place_of y.name t ≡ at → is_nothing only y.name y.wraps x.of ≡ z →
    is_free s y.name ≡ true →
    parameter_from only x t y s ≡ (judge f false false at.pos
    >> give (record { name = y.name; at = at; of = of; nothing = z })) s
parameter_step s only x t y f of at z e a p n b = rw (e, a, p, n, b) refl
