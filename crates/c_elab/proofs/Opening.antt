-- The parameters of a function and the scope of its body are opened.
use Rattle.std.proofs.Common.{◌≡◌, ℕ, zero, suc, ◌-◌, false, List, [], ◌∷◌, ◌++◌, length, map, take, drop, Option, Some}
use Rattle.std.proofs.Common.{None, refl, sym, ap, subst, ◌∙◌, arith, append_assoc}
use Rattle.std.specs.Prelude.{min, option_map, slice_get, slice_range, All}
use Rattle.std.specs.Global.{Vec}
use Rattle.std.proofs.lemmas.List.{map-append, append-nil}
use Rattle.ck_base.specs.declared.positions.Span.{Span}
use Rattle.ck_base.specs.Tokens.{Lexeme}
use Rattle.c_tree.specs.declared.typed.Typed.{Typed}
use Rattle.c_tree.specs.declared.typed.VarDef.{VarDef}
use Rattle.c_tree.specs.Readings as meant
use Rattle.c_tree.specs.Types.{Ty}
use Rattle.c_tree.specs.Programs.{parameter_name, parameter_local}
use Rattle.c_tree.specs.Scopes as scopes
use Rattle.c_tree.specs.Scopes.{State, LocalState}
use Rattle.c_tree.specs.Views.{types_of}
use Rattle.c_types.specs.declared.scopes.Scopes.{Scopes}
use Rattle.c_types.specs.Stands.{Stands, ShowsScope, Declared, text_at, named, var_kept, local_seen}
use Rattle.c_types.proofs.Judged.{named_there}
use Rattle.c_expressions.specs.Nodes.{IsWhole, type_in}
use Rattle.c_elaborator.specs.declared.work.Name.{Name}
use Rattle.c_elaborator.specs.declared.work.Work.{Work}
use Rattle.c_elaborator.specs.Work.{Shows, IsClosed, is_among}
use Rattle.c_elaborator.specs.Answers.{Keeps}
use Rattle.c_elaborator.specs.Parts.{token_of}
use Rattle.c_declarators.specs.declared.parts.Param.{Param}
use Rattle.c_declarators.specs.declared.parts.Prototype.{Prototype}
use Rattle.c_declarators.specs.Forming.{ParamIsThere}
use Rattle.c_declarators.specs.Parts.{param_in}
use Rattle.c_elab.specs.Functions.{parameter_token, IsParameterName, IsParameter, AddsParameters, Opens, opened}

-- no bytes stand between a place and itself
pub no_text : (file : List ℕ) (a : ℕ) → text_at file (record { start = a; end = a }) ≡ []
no_text file a = range file (min a (min a (length file))) (min a (length file)) (omega arith)
  where
    range : (file : List ℕ) (i j : ℕ) → i ≡ j → slice_range file i j ≡ []
    range file i j e = (let n : j - i ≡ 0 = omega arith in ap (λ k. take k (drop i file)) n)

pub parameter_is : (w : Work) (p : Param) (n : Name) (v : VarDef) → ParamIsThere w.nodes p → IsParameterName w p n →
    v.name ≡ n.span → v.pos ≡ n.pos → v.of ≡ p.of → IsParameter w p v
parameter_is w p n v h i a b c =
    let ts = types_of w.nodes.p.types in
    let file = w.file.now in
    let l = parameter_local (param_in w p) in
    ap (λ (s : Span). (let d : Declared = record { text = text_at file s; span = s; place = v.pos; of = named ts v.of }
    in d)) a
    ∙ ap (λ q. (let d : Declared = record { text = text_at file n.span; span = n.span; place = q; of = named ts v.of }
    in d)) b
    ∙ ap (λ (k : ℕ).
    (let d : Declared = record { text = text_at file n.span; span = n.span; place = n.pos; of = named ts k } in
    d)) c
    ∙ ap (λ (o : Option Ty).
    (let d : Declared = record { text = text_at file n.span; span = n.span; place = n.pos; of = o } in d))
    (named_there w.nodes.p p.of h)
    ∙ ap (λ (x : List ℕ).
    (let d : Declared = record { text = x; span = n.span; place = n.pos; of = Some (type_in w.nodes p.of) } in d))
    i.text
    ∙ ap (λ (s : Span).
    (let d : Declared = record { text = l.name.text; span = s; place = n.pos; of = Some (type_in w.nodes p.of) }
    in d)) i.span
    ∙ ap (λ q. (let t = Some (type_in w.nodes p.of) in
    let d : Declared = record { text = l.name.text; span = l.name.span; place = q; of = t } in d)) i.place

abbrev pub locals_of : Work → List Param → List LocalState
locals_of w ps = map (λ (p : Param). parameter_local (param_in w p)) ps

pub adds_none : (sc : Scopes) → AddsParameters sc sc []
adds_none sc = record {
  file = refl;
  stands = λ w s a e h. subst (λ (ls : List LocalState). Stands sc w.nodes.p (record s { locals = ls }))
      (sym (append-nil s.locals)) h;
}

every : (w : Work) (x : Param) (xs : List Param) → ParamIsThere w.nodes x → All (ParamIsThere w.nodes) xs →
    All (ParamIsThere w.nodes) (x ∷ xs)
every w x xs a h zero d l = a
every w x xs a h (suc k) d l = h k d (omega arith)

-- one more parameter
pub adds_one : (sc sd se : Scopes) (ps : List Param) (p : Param) (v : VarDef) → AddsParameters sc sd ps →
    ((w : Work) → ParamIsThere w.nodes p → IsParameter w p v) → se.file.now ≡ sd.file.now →
    ((q : Typed) (s : State) (y : LocalState) → Stands sd q s →
    var_kept sd.file.now (types_of q.types) v ≡ local_seen y →
    Stands se q (record s { locals = s.locals ++ y ∷ [] })) → AddsParameters sc se (ps ++ p ∷ [])
adds_one sc sd se ps p v a i f g = record {
  file = f ∙ a.file;
  stands = λ w s there e h.
      let here : All (ParamIsThere w.nodes) ps = λ k d l. front w ps p there k d l in
      let last : ParamIsThere w.nodes p = at_end w ps p there in
      let b = a.stands w s here e h in
      let y : LocalState = parameter_local (param_in w p) in
      let file : sd.file.now ≡ w.file.now = a.file ∙ sym e in
      let kept : var_kept sd.file.now (types_of w.nodes.p.types) v ≡ local_seen y =
      ap (λ (x : List ℕ). var_kept x (types_of w.nodes.p.types) v) file ∙ i w last in
      let same : (s.locals ++ locals_of w ps) ++ y ∷ [] ≡ s.locals ++ locals_of w (ps ++ p ∷ []) =
      append_assoc s.locals (locals_of w ps) (y ∷ [])
      ∙ ap (λ ls. s.locals ++ ls) (sym (map-append (λ (q : Param). parameter_local (param_in w q)) ps (p ∷ [])))
      in
      subst (λ (ls : List LocalState). Stands se w.nodes.p (record s { locals = ls })) same
      (g w.nodes.p (record s { locals = s.locals ++ locals_of w ps }) y b kept);
}
  where
    front : (w : Work) (ps : List Param) (p : Param) → All (ParamIsThere w.nodes) (ps ++ p ∷ []) →
        All (ParamIsThere w.nodes) ps
    front w [] p h = λ k d l. absurd (omega arith)
    front w (x ∷ xs) p h = every w x xs (h 0 x (omega arith)) (front w xs p (λ i e m. h (suc i) e (omega arith)))

    at_end : (w : Work) (ps : List Param) (p : Param) → All (ParamIsThere w.nodes) (ps ++ p ∷ []) →
        ParamIsThere w.nodes p
    at_end w [] p h = h 0 p (omega arith)
    at_end w (x ∷ xs) p h = at_end w xs p (λ i e m. h (suc i) e (omega arith))

-- ---- the scope of the body

map-then : {A B C : Type 0} (g : B → C) (f : A → B) (xs : List A) → map g (map f xs) ≡ map (λ (x : A). g (f x)) xs
map-then g f [] = refl
map-then g f (x ∷ xs) = ap (λ ys. g (f x) ∷ ys) (map-then g f xs)

unaddressed : (ps : List meant.Param) (k : ℕ) (v : LocalState) → slice_get (map parameter_local ps) k ≡ Some v →
    v.addressed ≡ false
unaddressed [] k v e = absurd cc
unaddressed (p ∷ ps) zero v e = (let i : parameter_local p ≡ v = cc in ap (λ (x : LocalState). x.addressed) (sym i))
unaddressed (p ∷ ps) (suc k) v e = unaddressed ps k v e

none_there : {P : Type 0} (ns : List ℕ) (j n : ℕ) → ns ≡ [] → slice_get ns j ≡ Some n → P
none_there [] j n e g = absurd cc
none_there (y ∷ ys) j n e g = absurd cc

abbrev pub with_opened : Work → Scopes → Vec ℕ → Work
with_opened u sc ks = record u { nodes = record u.nodes { scopes = sc }; addressed = ks }

opened_keeps : (u : Work) (sc : Scopes) (ks : Vec ℕ) → Keeps u (with_opened u sc ks)
opened_keeps u sc ks = record {
  more_types = omega arith;
  more_terms = omega arith;
  more_actions = omega arith;
  types = λ k h. refl;
  terms = λ k h. refl;
  values = λ v. v;
  actions = λ v k h. refl;
  file = refl;
  tree = refl;
}

opened_closed : (u : Work) (sc : Scopes) (ks : Vec ℕ) (s : State) (q : meant.Prototype) →
    sc.file.now ≡ u.nodes.scopes.file.now → ks.items ≡ [] → IsClosed u s → IsClosed (with_opened u sc ks) (opened q s)
opened_closed u sc ks s q f e h = record {
  file = f ∙ h.file;
  members = h.members;
  values = h.values;
  uses = h.uses;
  addressed = λ k j g. none_there ks.items k j e g;
  fillings = h.fillings;
  definitions = λ k d g. let t = h.definitions k d g in record { function = t.function; body = t.body; vars = t.vars };
}

opened_shows : (u : Work) (sc : Scopes) (ks : Vec ℕ) (s : State) (q : meant.Prototype) →
    sc.file.now ≡ u.nodes.scopes.file.now → ks.items ≡ [] → Stands sc u.nodes.p (opened q s) → Shows u s →
    Shows (with_opened u sc ks) (opened q s)
opened_shows u sc ks s q f e st h = record {
  stands = st;
  texts = h.texts;
  used_objects = h.used_objects;
  used_functions = h.used_functions;
  addressed = λ k v g. unaddressed q.params k v g ∙ sym (ap (is_among k) e);
  fillings = h.fillings;
  definitions = h.definitions;
  waiting = h.waiting;
  closed = opened_closed u sc ks s q f e h.closed;
}

pub opens : (u : Work) (sc sd se : Scopes) (ks : Vec ℕ) (p : Prototype) → IsWhole u.nodes → ks.items ≡ [] →
    sc.file.now ≡ u.nodes.scopes.file.now →
    ((q : Typed) (s : State) → Stands u.nodes.scopes q s → Stands sc q (record s { locals = [] })) →
    AddsParameters sc sd p.params.items → se.file.now ≡ sd.file.now →
    ((q : Typed) (s : State) (c : scopes.Scope) → Stands sd q s →
    ShowsScope (types_of q.types) (length s.tags) p.scope c → Stands se q (record s { scopes = c ∷ s.scopes })) →
    Opens u (with_opened u se ks) p
opens u sc sd se ks p whole none f take a g reopen = record {
  whole = record { facts = whole.facts; typed = whole.typed; void_there = whole.void_there; void = whole.void };
  keeps = opened_keeps u se ks;
  shows = λ s q there h i.
      let params : locals_of u p.params.items ≡ map parameter_local q.params =
      sym (ap (map parameter_local) i.params ∙ map-then parameter_local (param_in u) p.params.items) in
      let x = take u.nodes.p s h.stands in
      let y = a.stands u (record s { locals = [] }) there (sym (f ∙ h.closed.file)) x in
      let z = reopen u.nodes.p (record s { locals = locals_of u p.params.items }) q.scope y i.scope in
      opened_shows u se ks s q (g ∙ a.file ∙ f) none
      (subst (λ (ls : List LocalState). Stands se u.nodes.p (record s { locals = ls; scopes = q.scope ∷ s.scopes }))
      params z) h;
}

-- ---- the name of a parameter

pub named_parameter : (w : Work) (p : Param) (n : Name) → p.name ≡ Some n → IsParameterName w p n
named_parameter w p n e =
    let t : Lexeme = token_of w n in
    let same : parameter_token w p ≡ t =
    ap (λ (o : Option Name). parameter_name (param_in w p) (option_map (token_of w) o)) e in
    record {
      text = ap (λ (x : Lexeme). x.text) (sym same);
      span = ap (λ (x : Lexeme). x.span) (sym same);
      place = ap (λ (x : Lexeme). x.pos) (sym same);
    }

pub unnamed_parameter : (w : Work) (p : Param) → p.name ≡ None →
    IsParameterName w p (record { span = record { start = p.at.span.start; end = p.at.span.start }; pos = p.at.pos })
unnamed_parameter w p e =
    let t : Lexeme = parameter_name (param_in w p) None in
    let same : parameter_token w p ≡ t =
    ap (λ (o : Option Name). parameter_name (param_in w p) (option_map (token_of w) o)) e in
    record {
      text = no_text w.file.now p.at.span.start ∙ ap (λ (x : Lexeme). x.text) (sym same);
      span = ap (λ (x : Lexeme). x.span) (sym same);
      place = ap (λ (x : Lexeme). x.pos) (sym same);
    }
