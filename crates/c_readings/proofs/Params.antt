-- Parameters, one behind another.
use Rattle.std.proofs.Common.{◌≡◌, ℕ, Bool, true, false, List, [], ◌∷◌, ◌++◌, map, Ok, Err, sym, ap, subst, ◌∙◌}
use Rattle.std.specs.Prelude.{All, if◌then◌else◌}
use Rattle.std.specs.Global.{Vec}
use Rattle.std.proofs.lemmas.List.{map-append}
use Rattle.std.proofs.lemmas.List.Elements.{All-push}
use Rattle.c_tree.specs.Syntax.{Syn, Syns, more}
use Rattle.c_tree.specs.Scopes.{State, Doing, give, continued, ◌>>=◌, ◌>>◌}
use Rattle.c_tree.specs.Readings as meant
use Rattle.c_tree.specs.Programs.{reading}
use Rattle.ck_base.specs.declared.refusal.Refusal.{Refusal}
use Rattle.c_elaborator.specs.declared.work.Work.{Work}
use Rattle.c_elaborator.specs.Answers.{quietly, Done, Answers, NothingThere, IsNothing}
use Rattle.c_elaborator.specs.Parts.{IsPart}
use Rattle.c_elaborator.proofs.Sequencing.{quiet_law, then as after, also_then, failed, gave, told, answers_at}
use Rattle.c_elaborator.proofs.Sequencing.{keeps_then}
use Rattle.c_declarators.specs.declared.parts.Param.{Param}
use Rattle.c_declarators.specs.Forming.{ParamIsThere}
use Rattle.c_declarators.specs.Parts.{in_any, ParamThere, IsParam, param_in}
use Rattle.c_readings.specs.Naming.{bound_behind}
use Rattle.c_readings.specs.Folding.{SoFar}
use Rattle.c_readings.specs.Specifying.{ParamsThere, AreParams, params_on, param_behind}
use Rattle.c_readings.proofs.Kids.{cut, parts_kept}
use Rattle.c_readings.proofs.Among.{bind_ext, then_refused}
use Rattle.c_readings.proofs.Lasting.{param_kept, param_there, params_kept, params_there}
use Rattle.c_readings.proofs.Specifiers.{params_more, param_then}

-- the parameters that a list of them is
abbrev pub Are : Work → List Param → List meant.Param → Type 0
Are w items ps = ps ≡ map (param_in w) items

-- what is read so far of a parameter list
abbrev pub ParamsSoFar : Work → Work → List ℕ → Bool → Doing (List meant.Param) → List Param → Type 0
ParamsSoFar u v ks only d items = SoFar u v ks d (params_on only) (All (ParamIsThere v.nodes) items) (Are v items)

next_is : (v : Work) (k : ℕ) (ks : List ℕ) (only : Bool) (f : Doing (List meant.Param)) (rest : Syns) (x : Syn)
    (xs : Syns) (s : State) → rest ≡ more x xs →
    (f >>= params_on only rest) s ≡ (f >>= λ ps. (reading x).parameter only >>= param_then only xs ps) s
next_is v k ks only f rest x xs s e =
    ap (λ (z : Syns). (f >>= params_on only z) s) e
    ∙ bind_ext f (params_on only (more x xs)) (λ ps. (reading x).parameter only >>= param_then only xs ps) s
    (λ ps t. params_more only x xs ps t)

-- `void` alone ends them
pub params_stop : (u v w : Work) (k : ℕ) (ks : List ℕ) (only : Bool) (d : Doing (List meant.Param)) (found : Vec Param)
    (p : Param) → p.nothing ≡ true → ParamsSoFar u v (k ∷ ks) only d found.items →
    ((x : Syn) → IsPart v k x → Done quietly v w ((reading x).parameter only) (ParamThere w p) (λ s y. IsParam w p y)) →
    Answers quietly u w d ParamsThere AreParams (Ok found)
params_stop u v w k ks only d found p n f h =
    let c = cut v k ks f.rest f.parts in
    let a = h c.head c.first in
    let items = found.items in
    let ps = map (param_in v) items in
    let end : Done quietly w w (give ps) (ParamsThere w found) (AreParams w found) =
    told quietly w w (give ps) (ParamsThere w found) (ParamsThere w found) (λ s z. z ≡ ps) (AreParams w found) (λ t. t)
    (λ s z t e. e ∙ sym (params_kept v w items a.grows.keeps f.done.there))
    (gave quietly quiet_law w ps (ParamsThere w found) a.whole (params_there v w items a.grows.keeps f.done.there)) in
    answers_at quietly u w d (f.before >>= λ qs. (reading c.head).parameter only >>= param_then only c.tail qs)
    ParamsThere AreParams (Ok found)
    (λ s t. f.is s t ∙ next_is v k ks only f.before f.rest c.head c.tail s c.is)
    (after quietly quiet_law u v w f.before (λ qs. (reading c.head).parameter only >>= param_then only c.tail qs) ps _
    ParamsThere AreParams (Ok found) f.done
    (after quietly quiet_law v w w ((reading c.head).parameter only) (param_then only c.tail ps)
    (param_in w p) _ ParamsThere AreParams (Ok found) a
    (subst (λ (b : Bool). Answers quietly w w
    (if b then give ps else (param_behind ps (param_in w p) >>= params_on only c.tail)) ParamsThere AreParams
    (Ok found)) (sym n) end)))

-- one more
pub params_grow : (u v w z : Work) (k : ℕ) (ks : List ℕ) (only : Bool) (d : Doing (List meant.Param))
    (items longer : List Param) (p : Param) → p.nothing ≡ false → ParamsSoFar u v (k ∷ ks) only d items →
    ((x : Syn) → IsPart v k x → Done quietly v w ((reading x).parameter only) (ParamThere w p) (λ s y. IsParam w p y)) →
    Answers quietly w z (bound_behind (map (param_in w) items) (param_in w p)) NothingThere IsNothing (Ok tt) →
    longer ≡ items ++ p ∷ [] → ParamsSoFar u z ks only d longer
params_grow u v w z k ks only d items longer p n f h b e =
    let c = cut v k ks f.rest f.parts in
    let a = h c.head c.first in
    let ps = map (param_in v) items in
    let q = param_in w p in
    let r = (reading c.head).parameter only in
    let kept : map (param_in w) items ≡ ps = params_kept v w items a.grows.keeps f.done.there in
    let bound : Done quietly w z (bound_behind ps q) (NothingThere z tt) (IsNothing z tt) =
    subst (λ (qs : List meant.Param). Done quietly w z (bound_behind qs q) (NothingThere z tt) (IsNothing z tt))
    kept b in
    let there_w : All (ParamIsThere w.nodes) items = params_there v w items a.grows.keeps f.done.there in
    let there : All (ParamIsThere z.nodes) longer =
    subst (λ (ys : List Param). All (ParamIsThere z.nodes) ys) (sym e)
    (All-push (ParamIsThere z.nodes) items p (params_there w z items b.grows.keeps there_w)
    (param_there w z p b.grows.keeps a.there)) in
    let are : ps ++ q ∷ [] ≡ map (param_in z) longer =
    ap (λ (ys : List meant.Param). ys ++ q ∷ []) (sym kept ∙ sym (params_kept w z items b.grows.keeps there_w))
    ∙ ap (λ (y : meant.Param). map (param_in z) items ++ y ∷ []) (sym (param_kept w z p b.grows.keeps a.there))
    ∙ sym (map-append (param_in z) items (p ∷ [])) ∙ ap (map (param_in z)) (sym e) in
    let one : List meant.Param → Doing (List meant.Param) = λ qs. r >>= λ y. param_behind qs y in
    let T : Type 0 = All (ParamIsThere z.nodes) longer in
    let There : Work → Unit {0} → Type 0 = λ x y. T in
    let I : Work → Unit {0} → State → List meant.Param → Type 0 = λ x y s qs. Are z longer qs in
    let last : Done quietly z z (give (ps ++ q ∷ [])) T (λ s qs. Are z longer qs) =
    told quietly z z (give (ps ++ q ∷ [])) T T (λ s qs. qs ≡ ps ++ q ∷ []) (λ s qs. Are z longer qs) (λ t. t)
    (λ s qs t i. i ∙ are) (gave quietly quiet_law z (ps ++ q ∷ []) T b.whole there) in
    record {
      rest = c.tail;
      parts = parts_kept v z ks c.tail (keeps_then v w z a.grows.keeps b.grows.keeps) c.others;
      before = f.before >>= one;
      done = after quietly quiet_law u v z f.before one ps _ There I (Ok tt) f.done
          (after quietly quiet_law v w z r (λ y. param_behind ps y) q _ There I (Ok tt) a
          (also_then quietly quiet_law w z z (bound_behind ps q) (give (ps ++ q ∷ [])) _ _ There I (Ok tt) bound last));
      is = λ s t.
          let m = f.done.gives s t in
          let g = a.gives m.state m.shows in
          f.is s t ∙ next_is v k ks only f.before f.rest c.head c.tail s c.is
          ∙ ap (λ o. continued o (λ qs. r >>= param_then only c.tail qs)) m.is
          ∙ ap (λ o. continued o (param_then only c.tail m.value)) g.is
          ∙ ap (λ (x : Bool). (if x then give m.value else (param_behind m.value g.value >>= params_on only c.tail))
          g.state) (ap (λ (y : meant.Param). y.nothing) g.fits ∙ n)
          ∙ sym (ap (λ o. continued (continued o (λ y. param_behind m.value y)) (params_on only c.tail)) g.is)
          ∙ sym (ap (λ o. continued (continued o one) (params_on only c.tail)) m.is);
    }

-- a parameter is refused
pub params_fail : (u v w : Work) (k : ℕ) (ks : List ℕ) (only : Bool) (d : Doing (List meant.Param)) (items : List Param)
    (e : Refusal) → ParamsSoFar u v (k ∷ ks) only d items →
    ((x : Syn) → IsPart v k x → Answers quietly v w ((reading x).parameter only) ParamThere (in_any IsParam) (Err e)) →
    Answers quietly u w d ParamsThere AreParams (Err e)
params_fail u v w k ks only d items e f h =
    let c = cut v k ks f.rest f.parts in
    answers_at quietly u w d (f.before >>= λ qs. (reading c.head).parameter only >>= param_then only c.tail qs)
    ParamsThere AreParams (Err e)
    (λ s t. f.is s t ∙ next_is v k ks only f.before f.rest c.head c.tail s c.is)
    (then_refused u v w f.before (λ qs. (reading c.head).parameter only >>= param_then only c.tail qs) _ _ ParamsThere
    AreParams ParamsThere AreParams e f.done
    (λ s qs t i. failed quietly v w w ((reading c.head).parameter only) (param_then only c.tail qs) ParamThere
    (in_any IsParam) ParamsThere AreParams e (h c.head c.first)))

-- its name is refused
pub params_refuse : (u v w z : Work) (k : ℕ) (ks : List ℕ) (only : Bool) (d : Doing (List meant.Param))
    (items : List Param) (p : Param) (e : Refusal) → p.nothing ≡ false → ParamsSoFar u v (k ∷ ks) only d items →
    ((x : Syn) → IsPart v k x → Done quietly v w ((reading x).parameter only) (ParamThere w p) (λ s y. IsParam w p y)) →
    Answers quietly w z (bound_behind (map (param_in w) items) (param_in w p)) NothingThere IsNothing (Err e) →
    Answers quietly u z d ParamsThere AreParams (Err e)
params_refuse u v w z k ks only d items p e n f h b =
    let c = cut v k ks f.rest f.parts in
    let a = h c.head c.first in
    let ps = map (param_in v) items in
    let q = param_in w p in
    let on = params_on only c.tail in
    let bound : Answers quietly w z (bound_behind ps q) NothingThere IsNothing (Err e) =
    subst (λ (qs : List meant.Param). Answers quietly w z (bound_behind qs q) NothingThere IsNothing (Err e))
    (params_kept v w items a.grows.keeps f.done.there) b in
    answers_at quietly u z d (f.before >>= λ qs. (reading c.head).parameter only >>= param_then only c.tail qs)
    ParamsThere AreParams (Err e)
    (λ s t. f.is s t ∙ next_is v k ks only f.before f.rest c.head c.tail s c.is)
    (after quietly quiet_law u v z f.before (λ qs. (reading c.head).parameter only >>= param_then only c.tail qs) ps _
    ParamsThere AreParams (Err e) f.done
    (after quietly quiet_law v w z ((reading c.head).parameter only)
    (param_then only c.tail ps) q _ ParamsThere AreParams (Err e) a
    (subst (λ (x : Bool). Answers quietly w z (if x then give ps else (param_behind ps q >>= on)) ParamsThere AreParams
    (Err e)) (sym n)
    (failed quietly w z z (param_behind ps q) on ParamsThere AreParams ParamsThere AreParams e
    (failed quietly w z z (bound_behind ps q)
    (λ x. give (ps ++ q ∷ [])) NothingThere IsNothing ParamsThere AreParams e bound)))))
