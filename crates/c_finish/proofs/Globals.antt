-- The objects of the finished program.
use Rattle.std.proofs.Common.{◌≡◌, ℕ, ◌+◌, ◌<◌, ◌≤◌, ◌^◌, Bool, true, false, List, [], ◌∷◌, ◌++◌, length, take, map}
use Rattle.std.proofs.Common.{Option, Some, None, refl, sym, ap, ◌∙◌, arith}
use Rattle.std.specs.Prelude.{slice_get, fold, flat_map, option_map, ◌==◌, if◌then◌else◌, ℤ}
use Rattle.std.proofs.lemmas.List.{take_more, take_all, map-append, append-nil}
use Rattle.std.proofs.lemmas.Grind.{flat_map-append}
use Rattle.std.proofs.lemmas.Option.{slice_get_within, get_or_from_slice_get, slice_get-map}
use Rattle.c_tree.specs.declared.typed.Target.{Target}
use Rattle.c_tree.specs.declared.typed.Link.{Link}
use Rattle.c_tree.specs.declared.typed.GlobalDef.{GlobalDef}
use Rattle.c_tree.specs.Terms.{Aim, Pointing, Object}
use Rattle.c_tree.specs.Scopes.{Reach, All, Within, StaticState, State}
use Rattle.c_tree.specs.Statics.{aim_length}
use Rattle.c_tree.specs.Views.{types_of, aim_of}
use Rattle.c_tree.specs.Views as views
use Rattle.c_tree.specs.Programs.{numbers_of, aim_with, reach_of, pointing_of, initial_of, object_of}
use Rattle.c_elaborator.specs.declared.work.Start.{Start}
use Rattle.c_elaborator.specs.declared.work.Filling.{Filling}
use Rattle.c_elaborator.specs.declared.work.Work.{Work}
use Rattle.c_elaborator.specs.Work.{Shows, aiming_of, filling_of}
use Rattle.c_elaborator.specs.Work as works
use Rattle.c_plain_rules.proofs.Backwards.{at_some}
use Rattle.c_plain_rules.proofs.Shown.{static_is, statics_count}
use Rattle.c_finish.specs.Finished.{filled, IsShown, IsFaultless, IsNear, AreNear}
use Rattle.c_finish.specs.Tables.{last_filling}

-- ---- pointers

abbrev pointing_with : ℕ → ℤ → Aim → ℕ × ℕ → Pointing
pointing_with place offset a r = record { at = place; aim = a; low = r.0; length = r.1; offset = offset }

pointing_same : (place : ℕ) (y z : ℤ) (a b : Aim) (r q : ℕ × ℕ) → y ≡ z → a ≡ b → r ≡ q →
    pointing_with place y a r ≡ pointing_with place z b q
pointing_same place y z a b r q o e f = rw (o, e, f) refl

pub link_is : (s : State) (x : Start) (n : Option ℕ) (r : ℕ × ℕ) (t : Target) (low : ℕ) (offset : ℤ) →
    aim_length s (aim_of x.target) ≡ n → r ≡ reach_of n (works.reach_of x.bounds) →
    aim_of t ≡ aim_with (numbers_of s) (aim_of x.target) → low ≡ r.0 → offset ≡ x.offset →
    views.pointing_of (record { at = x.at; target = t; low = low; length = r.1; offset = offset })
    ≡ pointing_of s (aiming_of x)
link_is s x n r t low offset e f g l o =
    let p : (low, r.1) ≡ r = ap (λ k. (k, r.1)) l in
    pointing_same x.at offset x.offset (aim_of t) (aim_with (numbers_of s) (aim_of x.target)) (low, r.1)
    (reach_of (aim_length s (aim_of x.target)) (works.reach_of x.bounds)) o g
    (p ∙ f ∙ ap (λ m. reach_of m (works.reach_of x.bounds)) (sym e))

pub taken : {A : Type 0} (xs : List A) (i : ℕ) (x : A) → slice_get xs i ≡ Some x → take (i + 1) xs ≡ take i xs ++ x ∷ []
taken xs i x e = take_more xs i x (slice_get_within xs i x e)
    ∙ ap (λ y. take i xs ++ y ∷ []) (get_or_from_slice_get xs i x x e)

pub flat_taken : {A B : Type 0} (f : A → List B) (xs : List A) (i : ℕ) (x : A) → slice_get xs i ≡ Some x →
    flat_map f (take (i + 1) xs) ≡ flat_map f (take i xs) ++ f x
flat_taken f xs i x e = ap (flat_map f) (taken xs i x e) ∙ flat_map-append f (take i xs) (x ∷ [])
    ∙ ap (λ ys. flat_map f (take i xs) ++ ys) (append-nil (f x))

pub links_push : (s : State) (ls ms : List Link) (xs : List Start) (i : ℕ) (x : Start) (l : Link) →
    slice_get xs i ≡ Some x → ms ≡ ls ++ l ∷ [] → views.pointing_of l ≡ pointing_of s (aiming_of x) →
    map views.pointing_of ls ≡ map (pointing_of s) (map aiming_of (take i xs)) →
    map views.pointing_of ms ≡ map (pointing_of s) (map aiming_of (take (i + 1) xs))
links_push s ls ms xs i x l e f g h =
    ap (map views.pointing_of) f ∙ map-append views.pointing_of ls (l ∷ [])
    ∙ ap (λ ys. ys ++ views.pointing_of l ∷ []) h
    ∙ ap (λ y. map (pointing_of s) (map aiming_of (take i xs)) ++ y ∷ []) g
    ∙ sym (ap (λ ys. map (pointing_of s) (map aiming_of ys)) (taken xs i x e)
    ∙ ap (map (pointing_of s)) (map-append aiming_of (take i xs) (x ∷ []))
    ∙ map-append (pointing_of s) (map aiming_of (take i xs)) (aiming_of x ∷ []))

pub links_all : (s : State) (xs : List Start) (i : ℕ) → length xs ≤ i →
    map (pointing_of s) (map aiming_of (take i xs)) ≡ map (pointing_of s) (map aiming_of xs)
links_all s xs i le = ap (λ ys. map (pointing_of s) (map aiming_of ys)) (take_all i xs le)

-- ---- initial values

pub initial_is : (s : State) (f : Filling) (bytes : List ℕ) (links : List Link) (bs : List ℕ) (xs : List Start) →
    bs ≡ f.bytes.items → xs ≡ f.starts.items → bytes ≡ bs →
    map views.pointing_of links ≡ map (pointing_of s) (map aiming_of xs) →
    initial_of s (Some (filled f)) ≡ (bytes, map views.pointing_of links)
initial_is s f bytes links bs xs a b c d =
    let u : bytes ≡ f.bytes.items = c ∙ a in
    let v : map views.pointing_of links ≡ map (pointing_of s) (map aiming_of f.starts.items) =
    d ∙ ap (λ ys. map (pointing_of s) (map aiming_of ys)) b in
    rw (u, v) refl

chosen : (f : Filling) (o : Option Filling) (b : Bool) →
    (if b then Some (filled f) else option_map filled o) ≡ option_map filled (if b then Some f else o)
chosen f o true = refl
chosen f o false = refl

filling_from : (k : ℕ) (fs : List Filling) (o : Option Filling) →
    fold (λ p (f : Filling). if f.object == k then Some (filled f) else p) (option_map filled o) fs
    ≡ option_map filled (fold (λ p (f : Filling). if f.object == k then Some f else p) o fs)
filling_from k [] o = refl
filling_from k (f ∷ fs) o = rw (chosen f o (f.object == k)) (filling_from k fs (if f.object == k then Some f else o))

pub filling_is : (k : ℕ) (fs : List Filling) → filling_of k fs ≡ option_map filled (last_filling k fs)
filling_is k fs = filling_from k fs None

-- what an object's initial value points to is near, where no rule fails
pub starts_near : (w : Work) (k : ℕ) (f : Filling) → IsShown w → IsFaultless w → k < length w.nodes.p.globals →
    last_filling k w.fillings.items ≡ Some f → AreNear f.starts.items
starts_near w k f h o lt e = λ j x g.
    let s = h.state in
    let n = statics_count w s h.shows in
    let z = at_some s.statics k (omega arith) in
    let initial = h.shows.fillings k z.0 z.1 ∙ filling_is k w.fillings.items ∙ ap (option_map filled) e in
    let at = slice_get-map aiming_of f.starts.items j ∙ ap (option_map aiming_of) g in
    h.typed.near (o s h.shows) k j z.0 (filled f) (aiming_of x) z.1 initial at

-- where the bounds of a near pointer begin
pub low_near : (n : Option ℕ) (r : Reach) (z : ℤ) → IsNear r z → (reach_of n r).0 ≤ 2 ^ 32
low_near n (Within low m) z h = h.0
low_near (Some n) All z h = omega arith
low_near None All z h = omega arith

-- ---- objects

abbrev object_with : StaticState → List ℕ × List Pointing → Object
object_with g i = record { name = g.name.span; place = g.name.pos; of = g.of; bytes = i.0; links = i.1 }

abbrev start_with : List ℕ → List Pointing → List ℕ × List Pointing
start_with bytes links = (bytes, links)

object_shown : (s : State) (g : StaticState) → g.defined ≡ true →
    object_of s g ≡ object_with g (initial_of s g.initial) ∷ []
object_shown s g e = ap (λ (b : Bool). if b then object_with g (initial_of s g.initial) ∷ [] else []) e

object_hidden : (s : State) (g : StaticState) → g.defined ≡ false → object_of s g ≡ []
object_hidden s g e = ap (λ (b : Bool). if b then object_with g (initial_of s g.initial) ∷ [] else []) e

start_same : (bytes bs : List ℕ) (links ls : List Link) → bytes ≡ bs → links ≡ ls →
    start_with bytes (map views.pointing_of links) ≡ start_with bs (map views.pointing_of ls)
start_same bytes bs links ls e f = rw (e, f) refl

pub object_is : (w : Work) (s : State) (k : ℕ) (d : GlobalDef) (g : StaticState) (given : Option Filling)
    (bytes bs : List ℕ) (links ls : List Link) → bytes ≡ bs → links ≡ ls → Shows w s →
    slice_get w.nodes.p.globals k ≡ Some d → slice_get s.statics k ≡ Some g → g.defined ≡ true →
    given ≡ last_filling k w.fillings.items → initial_of s (option_map filled given) ≡ (bs, map views.pointing_of ls) →
    views.object_of (types_of w.nodes.p.types)
    (record { name = d.name; pos = d.pos; of = d.of; bytes = bytes; links = links }) ∷ [] ≡ object_of s g
object_is w s k d g given bytes bs links ls eb el h e f t i j =
    let x = static_is w s k d g h e f in
    let y : Object = views.object_of (types_of w.nodes.p.types)
    (record { name = d.name; pos = d.pos; of = d.of; bytes = bytes; links = links }) in
    let same : y ≡ object_with g (start_with bytes (map views.pointing_of links)) = rw (x.name, x.place, x.of) refl in
    let starts : initial_of s (option_map filled given) ≡ initial_of s g.initial =
    ap (λ o. initial_of s (option_map filled o)) i
    ∙ ap (initial_of s) (sym (h.fillings k g f ∙ filling_is k w.fillings.items)) in
    let all : start_with bytes (map views.pointing_of links) ≡ initial_of s g.initial =
    start_same bytes bs links ls eb el ∙ sym j ∙ starts in
    ap (λ (z : Object). z ∷ []) (same ∙ ap (object_with g) all) ∙ sym (object_shown s g t)

pub objects_push : (w : Work) (s : State) (os ps : List GlobalDef) (k : ℕ) (x : GlobalDef) (g : StaticState) →
    slice_get s.statics k ≡ Some g → ps ≡ os ++ x ∷ [] →
    views.object_of (types_of w.nodes.p.types) x ∷ [] ≡ object_of s g →
    map (views.object_of (types_of w.nodes.p.types)) os ≡ flat_map (object_of s) (take k s.statics) →
    map (views.object_of (types_of w.nodes.p.types)) ps ≡ flat_map (object_of s) (take (k + 1) s.statics)
objects_push w s os ps k x g e f i h =
    ap (map (views.object_of (types_of w.nodes.p.types))) f
    ∙ map-append (views.object_of (types_of w.nodes.p.types)) os (x ∷ [])
    ∙ ap (λ ys. ys ++ views.object_of (types_of w.nodes.p.types) x ∷ []) h
    ∙ ap (λ ys. flat_map (object_of s) (take k s.statics) ++ ys) i
    ∙ sym (flat_taken (object_of s) s.statics k g e)

pub objects_skip : (s : State) (zs : List Object) (k : ℕ) (g : StaticState) → slice_get s.statics k ≡ Some g →
    g.defined ≡ false → zs ≡ flat_map (object_of s) (take k s.statics) →
    zs ≡ flat_map (object_of s) (take (k + 1) s.statics)
objects_skip s zs k g e d h =
    h ∙ sym (flat_taken (object_of s) s.statics k g e
    ∙ ap (λ ys. flat_map (object_of s) (take k s.statics) ++ ys) (object_hidden s g d)
    ∙ append-nil (flat_map (object_of s) (take k s.statics)))
