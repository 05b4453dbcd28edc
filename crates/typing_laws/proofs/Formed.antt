-- Specifiers, declarators and the types that they make (C11 6.7.2, 6.7.6, 6.7.7).
use Rattle.std.proofs.Common.{◌≡◌, ℕ, zero, suc, ◌+◌, ◌*◌, ◌≤◌, Bool, true, false, List, [], ◌∷◌, ◌++◌, length, Option}
use Rattle.std.proofs.Common.{Some, None, Ok, refl, sym, ap, subst, ◌∙◌, ⊎_elim, arith}
use Rattle.std.specs.Prelude.{not, ◌&&◌, ◌||◌, ◌==◌, nat_lt, nat_le, if◌then◌else◌}
use Rattle.std.proofs.lemmas.Bool.{false≢true, not-true, ltb-false, or_parts, or_cases}
use Rattle.std.proofs.lemmas.Option.{none-some, same_Some}
use Rattle.ck_base.specs.declared.positions.Pos.{Pos}
use Rattle.ck_base.specs.Tokens.{Lexeme}
use Rattle.c_tree.specs.declared.syntax.NodeKind.{NodeKind}
use Rattle.c_tree.specs.declared.syntax.NodeKind.TheVariants as Kinds
use Rattle.c_tree.specs.declared.syntax.SpecifierWord.TheVariants as words
use Rattle.ck_int.specs.declared.kinds.IntKind.TheVariants as kind
use Rattle.c_tree.specs.Layout.{Extent, with_extent, times, size_limit}
use Rattle.c_tree.specs.Syntax.{Syns, nil, more}
use Rattle.c_tree.specs.Types.{Ty, Void, Int, Cap, Pointer, Array, Tagged, Function, Const, bool, char, signed_char}
use Rattle.c_tree.specs.Types.{unsigned_char, int, long, unsigned_long, qualified, bare, is_function, adjusted, count}
use Rattle.c_tree.specs.Scopes.{Entity, Alias, Part, TagState, State, Doing, give, need, look, some_or, ◌>>=◌, ◌>>◌}
use Rattle.c_tree.specs.Scopes.{find_name, type_extent, extent_size, is_complete}
use Rattle.c_tree.specs.Readings.{Specified, Param, Prototype, Wrap, Point, Row, Gives, Derived, Reading}
use Rattle.c_tree.specs.Declarators.{has_word, times_there, type_words, storage_words, storage_of, signs, word_type}
use Rattle.c_tree.specs.Declarators.{specified_type, names_type, named_types, with_const, specifiers, alias_type}
use Rattle.c_tree.specs.Declarators.{typedef_name, wrapped, no_derived, positive, array_length, constant, parts_const}
use Rattle.c_tree.specs.Declarators.{declarator_of, Formed, plainly, over_limit, signature, is_given, wrap_on, form_on}
use Rattle.c_tree.specs.Declarators.{formed, judge, abstract, has_register, type_name, has_part, add_member}
use Rattle.c_tree.specs.Declarators.{member_declarators, member_of, place_of, is_free, is_nothing, parameter_from}
use Rattle.c_tree.specs.Declarators.{parameter_of}
use Rattle.typing_laws.proofs.Facts.{TypeOk, TypesOk, PartOk, EntityOk, TagsGrow, Inv, Kept}
use Rattle.typing_laws.proofs.Growing.{type_kept, grows_self}
use Rattle.typing_laws.proofs.Steps.{given, needed, found, refused, first_then, needed_in, either}
use Rattle.typing_laws.proofs.Scalars.{branched, qualified_ok, bare_ok, bare_bare, complete_is}
use Rattle.typing_laws.proofs.Operators.{onward, if_some}
use Rattle.typing_laws.proofs.Places.{find_name_ok}
use Rattle.typing_laws.proofs.Extents.{AllParts, parts_kept}
use Rattle.typing_laws.proofs.Tags.{ParamOk, AllParams, PrototypeOk, WrapOk, AllWraps, ReadsDeclared, AllDeclared}
use Rattle.typing_laws.proofs.Tags.{constant_ok}

-- ---- specifiers

-- a type that words name
abbrev Basic : Ty → Type 0
Basic t = (ts : List TagState) → TypeOk ts t

basic_some : (u t : Ty) → Basic u → Some u ≡ Some t → Basic t
basic_some u t h e = subst Basic (same_Some u t e) h

signs_ok : (xs : Syns) (a b t : Ty) → Basic a → Basic b → signs xs a b ≡ Some t → Basic t
signs_ok xs a b t h k e =
    if_some (nat_le (times_there words.Signed xs + times_there words.Unsigned xs) 1)
    (Some (if has_word words.Unsigned xs then b else a)) None t (Basic t)
    (λ _ q. basic_some (if has_word words.Unsigned xs then b else a) t
    (branched Basic (has_word words.Unsigned xs) b a (λ _. k) (λ _. h)) q)
    (λ _ q. absurd (none-some t q)) e

word_type_ok : (xs : Syns) (t : Ty) → word_type xs ≡ Some t → Basic t
word_type_ok xs t e =
    let n = type_words xs in
    let sign = times_there words.Signed xs + times_there words.Unsigned xs in
    let ints = times_there words.Int xs in
    let o10 = (if nat_lt 0 n && n == sign + ints then signs xs int (Int kind.U32 0) else None) in
    let o9 = (if times_there words.Long xs == 2 && n == sign + ints + 2 then signs xs (Int kind.I64 1) (Int kind.U64 1)
    else o10) in
    let o8 = (if times_there words.Long xs == 1 && n == sign + ints + 1 then signs xs long unsigned_long else o9) in
    let o7 = (if times_there words.Short xs == 1 && n == sign + ints + 1 then signs xs (Int kind.I16 0) (Int kind.U16 0)
    else o8) in
    let o6 = (if nat_lt 1 ints then None else o7) in
    let o5 = (if times_there words.Char xs == 1 && n == sign + 1 then signs xs signed_char unsigned_char else o6) in
    let o4 = (if n == 1 && has_word words.Char xs then Some char else o5) in
    let o3 = (if n == 1 && has_word words.UintCap xs then Some (Cap false) else o4) in
    let o2 = (if n == 1 && has_word words.IntCap xs then Some (Cap true) else o3) in
    let o1 = (if n == 1 && has_word words.Bool xs then Some bool else o2) in
    let B = Basic t in
    if_some (n == 1 && has_word words.Void xs) (Some Void) o1 t B (λ _ q. basic_some Void t (λ ts. tt) q)
    (λ _ e. if_some (n == 1 && has_word words.Bool xs) (Some bool) o2 t B (λ _ q. basic_some bool t (λ ts. tt) q)
    (λ _ e. if_some (n == 1 && has_word words.IntCap xs) (Some (Cap true)) o3 t B
    (λ _ q. basic_some (Cap true) t (λ ts. tt) q)
    (λ _ e. if_some (n == 1 && has_word words.UintCap xs) (Some (Cap false)) o4 t B
    (λ _ q. basic_some (Cap false) t (λ ts. tt) q)
    (λ _ e. if_some (n == 1 && has_word words.Char xs) (Some char) o5 t B (λ _ q. basic_some char t (λ ts. tt) q)
    (λ _ e. if_some (times_there words.Char xs == 1 && n == sign + 1) (signs xs signed_char unsigned_char) o6 t B
    (λ _ q. signs_ok xs signed_char unsigned_char t (λ ts. tt) (λ ts. tt) q)
    (λ _ e. if_some (nat_lt 1 ints) None o7 t B (λ _ q. absurd (none-some t q))
    (λ _ e. if_some (times_there words.Short xs == 1 && n == sign + ints + 1)
    (signs xs (Int kind.I16 0) (Int kind.U16 0)) o8 t B
    (λ _ q. signs_ok xs (Int kind.I16 0) (Int kind.U16 0) t (λ ts. tt) (λ ts. tt) q)
    (λ _ e. if_some (times_there words.Long xs == 1 && n == sign + ints + 1) (signs xs long unsigned_long) o9 t B
    (λ _ q. signs_ok xs long unsigned_long t (λ ts. tt) (λ ts. tt) q)
    (λ _ e. if_some (times_there words.Long xs == 2 && n == sign + ints + 2)
    (signs xs (Int kind.I64 1) (Int kind.U64 1)) o10 t B
    (λ _ q. signs_ok xs (Int kind.I64 1) (Int kind.U64 1) t (λ ts. tt) (λ ts. tt) q)
    (λ _ e. if_some (nat_lt 0 n && n == sign + ints) (signs xs int (Int kind.U32 0)) None t B
    (λ _ q. signs_ok xs int (Int kind.U32 0) t (λ ts. tt) (λ ts. tt) q)
    (λ _ e. absurd (none-some t e)) e) e) e) e) e) e) e) e) e) e) e

abbrev AllTypes : List TagState → List Ty → Type 0
AllTypes ts [] = Unit {0}
AllTypes ts (u ∷ us) = TypeOk ts u × AllTypes ts us

specified_ok : (ts : List TagState) (xs : Syns) (us : List Ty) (t : Ty) → AllTypes ts us →
    specified_type xs us ≡ Some t → TypeOk ts t
specified_ok ts xs [] t h e = word_type_ok xs t e ts
specified_ok ts xs (u ∷ []) t h e =
    if_some (type_words xs == 0) (Some u) None t (TypeOk ts t) (λ _ q. subst (TypeOk ts) (same_Some u t q) h.0)
    (λ _ q. absurd (none-some t q)) e
specified_ok ts xs (u ∷ v ∷ us) t h e = absurd (none-some t e)

named_types_ok : (alone : Bool) (xs : Syns) (rs : List Reading) (s : State) → AllDeclared rs → Inv false s →
    (x : List Ty × State) → named_types alone xs rs s ≡ Ok x → Kept false true s (λ q us. AllTypes q.tags us) x
named_types_ok alone nil rs s h i x e =
    given (Kept false true s (λ q us. AllTypes q.tags us)) [] s x e
    (record { inv = i; grown = grows_self true s; post = tt })
named_types_ok alone (more y ys) [] s h i x e =
    given (Kept false true s (λ q us. AllTypes q.tags us)) [] s x e
    (record { inv = i; grown = grows_self true s; post = tt })
named_types_ok alone (more y ys) (r ∷ rs) s h i x e =
    either (names_type y) (r.type alone >>= λ t. named_types alone ys rs >>= λ ts. give (t ∷ ts))
    (named_types alone ys rs) s x (Kept false true s (λ q us. AllTypes q.tags us) x)
    (λ _ g.
    let f = first_then (r.type alone s) (λ t. named_types alone ys rs >>= λ ts. give (t ∷ ts)) x g in
    let l = h.0.expression.type false alone s i f.0 f.1 in
    let k = first_then (named_types alone ys rs f.0.1) (λ ts. give (f.0.0 ∷ ts)) x f.2 in
    let n = named_types_ok alone ys rs f.0.1 h.1 l.inv k.0 k.1 in
    onward false true s f.0 x l (given (Kept false true f.0.1 (λ q us. AllTypes q.tags us)) (f.0.0 ∷ k.0.0) k.0.1 x k.2
    (record {
      inv = n.inv;
      grown = n.grown;
      post = (type_kept f.0.1.tags k.0.1.tags n.grown.refers.tags f.0.0 l.post, n.post);
    })))
    (λ _ g. named_types_ok alone ys rs s h.1 i x g) e

pub specifiers_ok : (alone : Bool) (t : Lexeme) (xs : Syns) (rs : List Reading) (s : State) → AllDeclared rs →
    Inv false s → (x : Specified × State) → specifiers alone t xs rs s ≡ Ok x →
    Kept false true s (λ q p. TypeOk q.tags p.of) x
unfolding specifiers
specifiers_ok alone t xs rs s h i x e =
    let last : Ty → Doing Specified =
    λ of. give (record {
      first = t;
      stored = nat_lt (times_there words.Register xs) (storage_words xs);
      storage = storage_of xs;
      of = with_const xs of;
    }) in
    let f = first_then (named_types (alone && length rs == 1) xs rs s)
    (λ us. need (nat_le (storage_words xs) 1) 133 t.pos >> some_or (specified_type xs us) 133 t.pos >>= last) x
    e in
    let l = named_types_ok (alone && length rs == 1) xs rs s h i f.0 f.1 in
    let n = needed_in (nat_le (storage_words xs) 1) 133 t.pos
    (some_or (specified_type xs f.0.0) 133 t.pos) last f.0.1 x f.2 in
    let k = found (specified_type xs f.0.0) 133 t.pos last f.0.1 x n.1 in
    let u = specified_ok f.0.1.tags xs f.0.0 k.0 l.post k.1 in
    onward false true s f.0 x l (given (Kept false true f.0.1 (λ q p. TypeOk q.tags p.of)) _ f.0.1 x k.2
    (record {
      inv = l.inv;
      grown = grows_self true f.0.1;
      post = branched (TypeOk f.0.1.tags) (has_word words.Const xs) (qualified k.0) k.0
          (λ _. qualified_ok f.0.1.tags k.0 u) (λ _. u);
    }))

alias_ok : (o : Option Entity) (p : Pos) (s : State) → ((e : Entity) → o ≡ Some e → EntityOk false s e) → Inv false s →
    (x : Ty × State) → alias_type o p s ≡ Ok x → Kept false true s (λ q t. TypeOk q.tags t) x
alias_ok (Some (Alias t)) p s h i x e =
    given (Kept false true s (λ q t. TypeOk q.tags t)) t s x e
    (record { inv = i; grown = grows_self true s; post = h (Alias t) refl })
alias_ok o p s h i x e = refused _ x e

pub typedef_ok : (t : Lexeme) (s : State) → Inv false s → (x : Ty × State) → typedef_name t s ≡ Ok x →
    Kept false true s (λ q t. TypeOk q.tags t) x
typedef_ok t s i x e = alias_ok (find_name s.scopes t.text) t.pos s
    (λ f q. find_name_ok (EntityOk false s) s.scopes t.text f i.names q) i x e

-- ---- declarators

array_length_ok : (r : Reading) (s : State) → ReadsDeclared r → Inv false s → (x : ℕ × State) →
    array_length r s ≡ Ok x → Kept false true s (λ q n. Unit {0}) x
array_length_ok r s h i x e =
    let f = first_then (constant r s) (λ c. some_or (positive c.number) 134 c.first) x e in
    let l = constant_ok r s h.expression i f.0 f.1 in
    onward false true s f.0 x l (some_step (positive f.0.0.number) f.0.0.first f.0.1 l.inv f.2)
  where
    some_step : (o : Option ℕ) (p : Pos) (q : State) → Inv false q → some_or o 134 p q ≡ Ok x →
        Kept false true q (λ (q : State) (n : ℕ). Unit {0}) x
    some_step (Some n) p q j g =
        given (Kept false true q (λ (q : State) (n : ℕ). Unit {0})) n q x g
        (record { inv = j; grown = grows_self true q; post = tt })
    some_step None p q j g = refused _ x g

params_kept : (ts us : List TagState) → TagsGrow ts us → (ps : List Param) → AllParams ts ps → AllParams us ps
params_kept ts us g [] h = tt
params_kept ts us g (p ∷ ps) h = (record { type = type_kept ts us g p.of h.0.type }, params_kept ts us g ps h.1)

pub prototype_kept : (ts us : List TagState) → TagsGrow ts us → (p : Prototype) → PrototypeOk ts p → PrototypeOk us p
prototype_kept ts us g p h = record { params = params_kept ts us g p.params h.params; scope = h.scope }

pub wraps_kept : (ts us : List TagState) → TagsGrow ts us → (ws : List Wrap) → AllWraps ts ws → AllWraps us ws
wraps_kept ts us g [] h = tt
wraps_kept ts us g (Point q ∷ ws) h = (tt, wraps_kept ts us g ws h.1)
wraps_kept ts us g (Row n ∷ ws) h = (tt, wraps_kept ts us g ws h.1)
wraps_kept ts us g (Gives p ∷ ws) h = (prototype_kept ts us g p h.0, wraps_kept ts us g ws h.1)

abbrev IsDerived : State → Derived × State → Type 0
IsDerived s x = Kept false true s (λ q d. AllWraps q.tags d.wraps) x

give_derived : (s : State) → Inv false s → (d : Derived) → AllWraps s.tags d.wraps → (x : Derived × State) →
    give d s ≡ Ok x → IsDerived s x
give_derived s i d h x e = given (IsDerived s) d s x e (record { inv = i; grown = grows_self true s; post = h })

-- a declarator around another one
around : (r : Reading) (w : Wrap) (s : State) → ((ts : List TagState) → WrapOk ts w) → ReadsDeclared r → Inv false s →
    (x : Derived × State) → (r.derived >>= λ d. give (wrapped w d)) s ≡ Ok x → IsDerived s x
around r w s h j i x e =
    let f = first_then (r.derived s) (λ d. give (wrapped w d)) x e in
    let l = j.derived s i f.0 f.1 in
    onward false true s f.0 x l (give_derived f.0.1 l.inv (wrapped w f.0.0) (h f.0.1.tags, l.post) x f.2)

pub declarator_ok : (k : NodeKind) (t : Lexeme) (xs : Syns) (rs : List Reading) (s : State) → AllDeclared rs →
    Inv false s → (x : Derived × State) → declarator_of k t xs rs s ≡ Ok x → IsDerived s x
unfolding declarator_of
declarator_ok Kinds.DeclaredName t xs rs s h i x e = give_derived s i _ tt x e
declarator_ok Kinds.ParenthesizedDeclarator t xs (r ∷ rs) s h i x e = h.0.derived s i x e
declarator_ok Kinds.Pointer t xs (q ∷ []) s h i x e = give_derived s i _ (tt, tt) x e
declarator_ok Kinds.Pointer t xs (q ∷ r ∷ rs) s h i x e = around r (Point (parts_const xs)) s (λ ts. tt) h.1.0 i x e
declarator_ok Kinds.OpenArray t xs [] s h i x e = give_derived s i _ (tt, tt) x e
declarator_ok Kinds.OpenArray t xs (r ∷ rs) s h i x e = around r (Row 0) s (λ ts. tt) h.0 i x e
declarator_ok Kinds.Array t xs (r ∷ []) s h i x e =
    let f = first_then (array_length r s) (λ n. give (wrapped (Row n) no_derived)) x e in
    let l = array_length_ok r s h.0 i f.0 f.1 in
    onward false true s f.0 x l (give_derived f.0.1 l.inv (wrapped (Row f.0.0) no_derived) (tt, tt) x f.2)
declarator_ok Kinds.Array t xs (r ∷ q ∷ rs) s h i x e =
    let f = first_then (r.derived s) (λ d. array_length q >>= λ n. give (wrapped (Row n) d)) x e in
    let l = h.0.derived s i f.0 f.1 in
    let g = first_then (array_length q f.0.1) (λ n. give (wrapped (Row n) f.0.0)) x f.2 in
    let k = array_length_ok q f.0.1 h.1.0 l.inv g.0 g.1 in
    onward false true s f.0 x l (onward false true f.0.1 g.0 x k
    (give_derived g.0.1 k.inv (wrapped (Row g.0.0) f.0.0)
    (tt, wraps_kept f.0.1.tags g.0.1.tags k.grown.refers.tags f.0.0.wraps l.post) x g.2))
declarator_ok Kinds.Function t xs (r ∷ []) s h i x e =
    let f = first_then (r.prototype s) (λ p. give (wrapped (Gives p) no_derived)) x e in
    let l = h.0.prototype s i f.0 f.1 in
    onward false true s f.0 x l (give_derived f.0.1 l.inv (wrapped (Gives f.0.0) no_derived) (l.post, tt) x f.2)
declarator_ok Kinds.Function t xs (r ∷ q ∷ rs) s h i x e =
    let f = first_then (r.derived s) (λ d. q.prototype >>= λ p. give (wrapped (Gives p) d)) x e in
    let l = h.0.derived s i f.0 f.1 in
    let g = first_then (q.prototype f.0.1) (λ p. give (wrapped (Gives p) f.0.0)) x f.2 in
    let k = h.1.0.prototype f.0.1 l.inv g.0 g.1 in
    onward false true s f.0 x l (onward false true f.0.1 g.0 x k
    (give_derived g.0.1 k.inv (wrapped (Gives g.0.0) f.0.0)
    (k.post, wraps_kept f.0.1.tags g.0.1.tags k.grown.refers.tags f.0.0.wraps l.post) x g.2))
declarator_ok k t xs rs s h i x e = refused _ x e

-- ---- the type that a declarator makes

-- no rule is broken
pub record Passes (f : Formed) : Type 0 where
  pub lacks : f.lacks ≡ false
  pub misfits : f.misfits ≡ false
  pub too_large : f.too_large ≡ false

passes_wrap : (s : State) (w : Wrap) (f : Formed) → Passes (wrap_on s w f) → Passes f
passes_wrap s (Point q) f p = record { lacks = p.lacks; misfits = p.misfits; too_large = p.too_large }
passes_wrap s (Row n) f p = record {
  lacks = (or_parts f.lacks (not (is_function f.of || is_complete s f.of)) p.lacks).0;
  misfits = (or_parts f.misfits (is_function f.of) p.misfits).0;
  too_large = (or_parts f.too_large (over_limit s (Array f.of n)) p.too_large).0;
}
passes_wrap s (Gives q) f p = record {
  lacks = p.lacks;
  misfits = (or_parts f.misfits (not (is_given f.of)) p.misfits).0;
  too_large = p.too_large;
}

passes_before : (s : State) (ws : List Wrap) (f : Formed) → Passes (form_on s ws f) → Passes f
passes_before s [] f p = p
passes_before s (w ∷ ws) f p = passes_wrap s w f (passes_before s ws (wrap_on s w f) p)

pub adjusted_ok : (ts : List TagState) (t : Ty) → TypeOk ts t → TypeOk ts (adjusted t)
adjusted_ok ts (Array t n) h = h.0
adjusted_ok ts (Function r ps) h = h
adjusted_ok ts Void h = h
adjusted_ok ts (Int k n) h = h
adjusted_ok ts (Cap b) h = h
adjusted_ok ts (Pointer t) h = h
adjusted_ok ts (Tagged n) h = h
adjusted_ok ts (Const t) h = h

signature_ok : (ts : List TagState) (ps : List Param) → AllParams ts ps → TypesOk ts (signature ps)
signature_ok ts [] h = tt
signature_ok ts (p ∷ ps) h =
    let a = adjusted_ok ts p.of h.0.type in
    (bare_ok ts (adjusted p.of) a, bare_bare ts (adjusted p.of) a, signature_ok ts ps h.1)

pub signature_count : (ps : List Param) → count (signature ps) ≡ length ps
signature_count [] = refl
signature_count (p ∷ ps) = ap (λ n. n + 1) (signature_count ps) ∙ omega arith

times_size : (n : ℕ) (x : Extent) (o : Option Extent) → o ≡ Some x →
    extent_size (with_extent o (times n)) ≤ size_limit → n * x.size ≤ size_limit
times_size zero x o e h = omega arith
times_size (suc n) x o e h = subst (λ o. extent_size (with_extent o (times (suc n))) ≤ size_limit) e h

not_false : (b : Bool) → not b ≡ false → b ≡ true
not_false true e = refl
not_false false e = absurd (false≢true (sym e))

-- what a function may give, without a qualifier of its own
given_bare : (ts : List TagState) (t : Ty) → TypeOk ts t → is_given t ≡ true → is_given (bare t) ≡ true
given_bare ts (Const Void) h e = refl
given_bare ts (Const (Int k n)) h e = refl
given_bare ts (Const (Cap b)) h e = refl
given_bare ts (Const (Pointer t)) h e = refl
given_bare ts (Const (Tagged n)) h e = refl
given_bare ts (Const (Array t n)) h e = absurd (false≢true h.1)
given_bare ts (Const (Function r ps)) h e = absurd (false≢true h.1)
given_bare ts (Const (Const t)) h e = absurd (false≢true h.1)
given_bare ts t h e = e

wrap_ok : (s : State) (w : Wrap) (f : Formed) → WrapOk s.tags w → Passes (wrap_on s w f) → TypeOk s.tags f.of →
    TypeOk s.tags (wrap_on s w f).of
wrap_ok s (Point true) f h p k = (k, refl)
wrap_ok s (Point false) f h p k = k
wrap_ok s (Row n) f h p k =
    let l = not_false (is_function f.of || is_complete s f.of)
    (or_parts f.lacks (not (is_function f.of || is_complete s f.of)) p.lacks).1 in
    let c = ⊎_elim (λ g. absurd (false≢true (sym (or_parts f.misfits (is_function f.of) p.misfits).1 ∙ g)))
    (λ c. complete_is s f.of c) (or_cases (is_function f.of) (is_complete s f.of) l) in (
      k,
      c.0,
      c.1,
      times_size n c.0 (type_extent s.tags f.of) c.1
          (ltb-false size_limit _ (or_parts f.too_large (over_limit s (Array f.of n)) p.too_large).1),
    )
wrap_ok s (Gives q) f h p k = (
  bare_ok s.tags f.of k,
  given_bare s.tags f.of k (not_false (is_given f.of) (or_parts f.misfits (not (is_given f.of)) p.misfits).1),
  signature_ok s.tags q.params h.params,
)

form_ok : (s : State) (ws : List Wrap) (f : Formed) → AllWraps s.tags ws → Passes (form_on s ws f) →
    TypeOk s.tags f.of → TypeOk s.tags (form_on s ws f).of
form_ok s [] f h p k = k
form_ok s (w ∷ ws) f h p k =
    form_ok s ws (wrap_on s w f) h.1 p (wrap_ok s w f h.0 (passes_before s ws (wrap_on s w f) p) k)

pub formed_ok : (s : State) (t : Ty) (ws : List Wrap) → AllWraps s.tags ws → Passes (formed s t ws) → TypeOk s.tags t →
    TypeOk s.tags (formed s t ws).of
unfolding formed
formed_ok s t ws h p k = form_ok s ws (plainly t) h p k

pub record Judged (f : Formed) (lacks misfits : Bool) : Type 0 where
  pub passes : Passes f
  pub complete : lacks ≡ false
  pub fits : misfits ≡ false

three : {A : Type 0} (a b c : Bool) (p : Pos) (k : Doing A) (s : State) (x : A × State) →
    (need a 132 p >> need b 133 p >> need c 140 p >> k) s ≡ Ok x → (a ≡ true) × (b ≡ true) × (c ≡ true) × (k s ≡ Ok x)
three true true true p k s x e = (refl, refl, refl, e)
three false b c p k s x e = refused _ x e
three true false c p k s x e = refused _ x e
three true true false p k s x e = refused _ x e

pub judged : {A : Type 0} (f : Formed) (lacks misfits : Bool) (p : Pos) (d : Doing A) (s : State) (x : A × State) →
    (judge f lacks misfits p >> d) s ≡ Ok x → Judged f lacks misfits × (d s ≡ Ok x)
judged f lacks misfits p d s x e =
    let q = three (not (f.lacks || lacks)) (not (f.misfits || misfits)) (not f.too_large) p d s x e in
    let a = or_parts f.lacks lacks (not-true _ q.0) in
    let b = or_parts f.misfits misfits (not-true _ q.1) in (
      record { passes = record { lacks = a.0; misfits = b.0; too_large = not-true _ q.2 }; complete = a.1; fits = b.1 },
      q.3,
    )

-- ---- type names, members and parameters

abstract_ok : (r : Reading) (rs : List Reading) (s : State) → AllDeclared rs → Inv false s → (x : Derived × State) →
    abstract r rs s ≡ Ok x → IsDerived s x
abstract_ok r [] s h i x e = give_derived s i no_derived tt x e
abstract_ok r (q ∷ qs) s h i x e = h.0.derived s i x e

pub type_name_ok : (t : Lexeme) (xs : Syns) (rs : List Reading) (s : State) → AllDeclared rs → Inv false s →
    (x : Ty × State) → type_name t xs rs s ≡ Ok x → Kept false true s (λ q t. TypeOk q.tags t) x
unfolding type_name
type_name_ok t xs [] s h i x e = refused _ x e
type_name_ok t xs (r ∷ rs) s h i x e =
    let last : Specified → Derived → Doing Ty =
    λ p d. look >>= λ st. judge (formed st p.of d.wraps) false false t.pos
    >> give (formed st p.of d.wraps).of in
    let f = first_then (r.specified false s) (λ p. need (not (p.stored || has_register xs)) 133 t.pos >> abstract r rs
    >>= last p) x e in
    let l = h.0.specified false s i f.0 f.1 in
    let p = f.0.0 in let a = f.0.1 in
    let n = needed_in (not (p.stored || has_register xs)) 133 t.pos (abstract r rs) (last p) a x f.2 in
    let g = first_then (abstract r rs a) (last p) x n.1 in
    let k = abstract_ok r rs a h.1 l.inv g.0 g.1 in
    let b = g.0.1 in let ws = g.0.0.wraps in
    let j = judged (formed b p.of ws) false false t.pos (give (formed b p.of ws).of) b x g.2 in
    onward false true s f.0 x l (onward false true a g.0 x k
    (given (Kept false true b (λ q t. TypeOk q.tags t)) (formed b p.of ws).of b x j.1
    (record {
      inv = k.inv;
      grown = grows_self true b;
      post = formed_ok b p.of ws k.post j.0.passes (type_kept a.tags b.tags k.grown.refers.tags p.of l.post);
    })))

parts_more : (ts : List TagState) (ms : List Part) (m : Part) → AllParts ts ms → PartOk ts m →
    AllParts ts (ms ++ m ∷ [])
parts_more ts [] m h k = (k, tt)
parts_more ts (n ∷ ms) m h k = (h.0, parts_more ts ms m h.1 k)

add_member_ok : (p : Specified) (stored : Bool) (name : Option Lexeme) (ws : List Wrap) (ms : List Part) (s : State) →
    TypeOk s.tags p.of → AllWraps s.tags ws → AllParts s.tags ms → Inv false s → (x : List Part × State) →
    add_member p stored name ws ms s ≡ Ok x → Kept false true s (λ q ns. AllParts q.tags ns) x
add_member_ok p stored None ws ms s k w h i x e = refused _ x e
add_member_ok p stored (Some t) ws ms s k w h i x e =
    let f = formed s p.of ws in
    let last : Doing (List Part) = give (ms ++ record { name = t; of = f.of } ∷ []) in
    let a = needed_in (not (has_part ms t.text)) 131 t.pos
    (judge f (not (is_function f.of || is_complete s f.of)) (is_function f.of) t.pos) (λ _. last) s x e in
    let j = judged f (not (is_function f.of || is_complete s f.of)) (is_function f.of) t.pos last s x a.1 in
    let c = ⊎_elim (λ g. absurd (false≢true (sym j.0.fits ∙ g))) (λ c. complete_is s f.of c)
    (or_cases (is_function f.of) (is_complete s f.of) (not_false _ j.0.complete)) in
    given (Kept false true s (λ q ns. AllParts q.tags ns)) _ s x j.1
    (record {
      inv = i;
      grown = grows_self true s;
      post = parts_more s.tags ms (record { name = t; of = f.of }) h
          (record { type = formed_ok s p.of ws w j.0.passes k; complete = c });
    })

member_declarators_ok : (p : Specified) (rs : List Reading) (ms : List Part) (s : State) → AllDeclared rs →
    TypeOk s.tags p.of → AllParts s.tags ms → Inv false s → (x : List Part × State) →
    member_declarators p rs ms s ≡ Ok x → Kept false true s (λ q ns. AllParts q.tags ns) x
member_declarators_ok p [] ms s h k m i x e =
    given (Kept false true s (λ q ns. AllParts q.tags ns)) ms s x e
    (record { inv = i; grown = grows_self true s; post = m })
member_declarators_ok p (r ∷ rs) ms s h k m i x e =
    let f = first_then (r.derived s) (λ d. add_member p p.stored d.name d.wraps ms >>= λ ns. member_declarators p rs ns)
    x e in
    let l = h.0.derived s i f.0 f.1 in
    let a = f.0.1 in let d = f.0.0 in
    let t = type_kept s.tags a.tags l.grown.refers.tags p.of k in
    let g = first_then (add_member p p.stored d.name d.wraps ms a) (λ ns. member_declarators p rs ns) x f.2 in
    let n = add_member_ok p p.stored d.name d.wraps ms a t l.post
    (parts_kept s.tags a.tags l.grown.refers.tags ms m) l.inv g.0 g.1 in
    let b = g.0.1 in
    onward false true s f.0 x l (onward false true a g.0 x n
    (member_declarators_ok p rs g.0.0 b h.1
    (type_kept a.tags b.tags n.grown.refers.tags p.of t) n.post n.inv x g.2))

pub member_of_ok : (t : Lexeme) (xs : Syns) (rs : List Reading) (ms : List Part) (s : State) → AllDeclared rs →
    AllParts s.tags ms → Inv false s → (x : List Part × State) → member_of t xs rs ms s ≡ Ok x →
    Kept false true s (λ q ns. AllParts q.tags ns) x
unfolding member_of
member_of_ok t xs [] ms s h m i x e = refused _ x e
member_of_ok t xs (r ∷ rs) ms s h m i x e =
    let f = first_then (r.specified false s) (λ p. need (not (p.stored || has_register xs)) 133 t.pos
    >> member_declarators p rs ms) x e in
    let l = h.0.specified false s i f.0 f.1 in
    let a = f.0.1 in
    let n = needed (not (f.0.0.stored || has_register xs)) 133 t.pos (member_declarators f.0.0 rs ms) a x f.2 in
    onward false true s f.0 x l (member_declarators_ok f.0.0 rs ms a h.1 l.post
    (parts_kept s.tags a.tags l.grown.refers.tags ms m) l.inv x n.1)

abbrev IsParam : State → Param × State → Type 0
IsParam s x = Kept false true s (λ q p. p.nothing ≡ false → ParamOk q.tags p) x

parameter_from_ok : (only : Bool) (p : Specified) (first : Lexeme) (d : Derived) (s : State) → TypeOk s.tags p.of →
    AllWraps s.tags d.wraps → Inv false s → (x : Param × State) → parameter_from only p first d s ≡ Ok x → IsParam s x
parameter_from_ok only p first d s k w i x e =
    let f = formed s p.of d.wraps in
    let t = adjusted f.of in
    let at = place_of d.name first in
    let nothing = is_nothing only d.name d.wraps p.of in
    let last : Doing Param = give (record { name = d.name; at = at; of = t; nothing = nothing }) in
    let a = needed_in (is_free s d.name) 131 at.pos (judge f false false at.pos) (λ _. last) s x e in
    let j = judged f false false at.pos last s x a.1 in
    given (IsParam s) _ s x j.1
    (record {
      inv = i;
      grown = grows_self true s;
      post = λ q. record { type = adjusted_ok s.tags f.of (formed_ok s p.of d.wraps w j.0.passes k) };
    })

pub parameter_of_ok : (t : Lexeme) (rs : List Reading) (only : Bool) (s : State) → AllDeclared rs → Inv false s →
    (x : Param × State) → parameter_of t rs only s ≡ Ok x → IsParam s x
unfolding parameter_of
parameter_of_ok t [] only s h i x e = refused _ x e
parameter_of_ok t (r ∷ rs) only s h i x e =
    let f = first_then (r.specified false s) (λ p. need (not p.stored) 133 t.pos >> abstract r rs
    >>= λ d. parameter_from only p t d) x e in
    let l = h.0.specified false s i f.0 f.1 in
    let p = f.0.0 in let a = f.0.1 in
    let n = needed_in (not p.stored) 133 t.pos (abstract r rs) (λ d. parameter_from only p t d) a x f.2 in
    let g = first_then (abstract r rs a) (λ d. parameter_from only p t d) x n.1 in
    let k = abstract_ok r rs a h.1 l.inv g.0 g.1 in
    let b = g.0.1 in
    onward false true s f.0 x l (onward false true a g.0 x k
    (parameter_from_ok only p t g.0.0 b (type_kept a.tags b.tags k.grown.refers.tags p.of l.post) k.post k.inv x
    g.2))
