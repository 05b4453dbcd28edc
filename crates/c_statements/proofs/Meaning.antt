-- A declaration is what it does before its initializer, and then what its name denotes is initialised.
use Rattle.std.proofs.Common.{◌≡◌, ℕ, Bool, true, false, [], ◌∷◌, Option, Some, None, Result, Ok, Err, refl}
use Rattle.std.specs.Prelude.{not, ◌||◌, if◌then◌else◌}
use Rattle.ck_base.specs.declared.positions.Pos.{Pos}
use Rattle.ck_base.specs.Tokens.{Lexeme}
use Rattle.c_tree.specs.Types.{Ty, is_function}
use Rattle.c_tree.specs.Readings as meant
use Rattle.c_tree.specs.Readings.{Storage, Plain, Internal, External, Defining_type}
use Rattle.c_tree.specs.Scopes.{Entity, Static, Routine, Local, Alias, Library, Enumerator, State, Fault, Doing, give}
use Rattle.c_tree.specs.Scopes.{need, change, continued, ◌>>=◌, ◌>>◌, find_in, innermost, at_file_scope, bind_name}
use Rattle.c_tree.specs.Declarators.{Formed, judge}
use Rattle.c_tree.specs.Declarations.{Behind, has_any, no_items, init_static, init_local, linked, new_static}
use Rattle.c_tree.specs.Declarations.{linked_static, linked_routine, new_local, is_external, declare_alias}
use Rattle.c_tree.specs.Declarations.{declare_function, declare_global, declare_external, declare_internal}
use Rattle.c_tree.specs.Declarations.{declare_local, declare_in_block, declare_object, declare}
use Rattle.c_types.specs.Declares.{giving, function_of, declares_alias, declares_function, declares_global}
use Rattle.c_types.specs.Declares.{declares_external, declares_internal, declares_local, declares_in_block}
use Rattle.c_types.specs.Declares.{declares_object, declares_named}
use Rattle.c_statements.proofs.Leaving.{sound}

-- what a name denotes gets its value
abbrev pub initialized : Entity → Lexeme → Ty → Behind → Doing meant.Items
initialized (Local k u) t of b = init_local k t of b >>= λ xs. give (record { vars = k ∷ []; actions = xs })
initialized (Static k) t of b = init_static k t b >> give no_items
initialized e t of b = give no_items

-- the result of a declaration from that of its first part
abbrev pub Follows : Lexeme → Ty → Behind → Result (Entity × State) Fault → Result (meant.Items × State) Fault → Type 0
Follows t of b (Ok x) o = o ≡ initialized x.0 t of b x.1
Follows t of b (Err f) o = o ≡ Err f

-- what comes next is what the entity asks for
follows_given : (t : Lexeme) (of : Ty) (b : Behind) (entity : ℕ → Entity) (rest : ℕ → Doing meant.Items)
    (r : Result (ℕ × State) Fault) → ((k : ℕ) (u : State) → rest k u ≡ initialized (entity k) t of b u) →
    Follows t of b (continued r (λ k. give (entity k))) (continued r rest)
follows_given t of b entity rest (Ok x) h = h x.0 x.1
follows_given t of b entity rest (Err e) h = refl

-- the same behind the tests
follows_judged : (t : Lexeme) (of : Ty) (b : Behind) (x y z : Bool) (p : Pos) (d : Doing ℕ) (entity : ℕ → Entity)
    (rest : ℕ → Doing meant.Items) (s : State) →
    (y ≡ true → (k : ℕ) (u : State) → rest k u ≡ initialized (entity k) t of b u) →
    Follows t of b (((need x 132 p >> need y 133 p >> need z 140 p) >> giving entity d) s)
    (((need x 132 p >> need y 133 p >> need z 140 p) >> d >>= rest) s)
follows_judged t of b true true true p d entity rest s h = follows_given t of b entity rest (d s) (h refl)
follows_judged t of b true true false p d entity rest s h = refl
follows_judged t of b true false z p d entity rest s h = refl
follows_judged t of b false y z p d entity rest s h = refl

follows : (t : Lexeme) (f : Formed) (b : Behind) (fits lacks misfits : Bool) (d : Doing ℕ) (entity : ℕ → Entity)
    (rest : ℕ → Doing meant.Items) (s : State) →
    (misfits ≡ false → (k : ℕ) (u : State) → rest k u ≡ initialized (entity k) t f.of b u) →
    Follows t f.of b ((need fits 131 t.pos >> judge f lacks misfits t.pos >> giving entity d) s)
    ((need fits 131 t.pos >> judge f lacks misfits t.pos >> d >>= rest) s)
follows t f b true lacks misfits d entity rest s h =
    follows_judged t f.of b (not (f.lacks || lacks)) (not (f.misfits || misfits)) (not f.too_large) t.pos d entity
    rest s
    (λ e. h (sound f.misfits misfits e))
follows t f b false lacks misfits d entity rest s h = refl

-- ---- each declaration

alias_tested : (t : Lexeme) (f : Formed) (b : Behind) (x y z w : Bool) (s : State) →
    Follows t f.of b ((need x 131 t.pos >> (need y 132 t.pos >> need z 133 t.pos >> need w 140 t.pos)
    >> (change (bind_name t.text (Alias f.of)) >> give (Alias f.of))) s)
    ((need x 131 t.pos >> (need y 132 t.pos >> need z 133 t.pos >> need w 140 t.pos)
    >> change (bind_name t.text (Alias f.of)) >> give no_items) s)
alias_tested t f b true true true true s = refl
alias_tested t f b true true true false s = refl
alias_tested t f b true true false w s = refl
alias_tested t f b true false z w s = refl
alias_tested t f b false y z w s = refl

alias_follows : (t : Lexeme) (f : Formed) (b : Behind) (s : State) →
    Follows t f.of b (declares_alias t f (has_any b) s) (declare_alias t f b s)
alias_follows t f b s =
    alias_tested t f b _ (not (f.lacks || false)) (not (f.misfits || has_any b)) (not f.too_large) s

-- a function, and a library function, is not initialised
function_next : (o : Option Entity) (k : ℕ) (t : Lexeme) (of : Ty) (b : Behind) (u : State) →
    (let d : Doing meant.Items = give no_items in d) u ≡ initialized (function_of o k) t of b u
function_next None k t of b u = refl
function_next (Some (Local j v)) k t of b u = refl
function_next (Some (Static j)) k t of b u = refl
function_next (Some (Routine j)) k t of b u = refl
function_next (Some (Alias v)) k t of b u = refl
function_next (Some (Enumerator z)) k t of b u = refl
function_next (Some (Library j v)) k t of b u = refl

function_follows : (t : Lexeme) (f : Formed) (b : Behind) (s : State) →
    Follows t f.of b (declares_function t f (has_any b) s) (declare_function t f b s)
function_follows t f b s =
    let o = find_in (innermost s.scopes).names t.text in
    follows t f b _ false (has_any b || not (at_file_scope s)) (linked_routine t f.of o) (function_of o)
    (λ k. give no_items) s (λ e k u. function_next o k t f.of b u)

global_follows : (st : Storage) (t : Lexeme) (f : Formed) (b : Behind) (s : State) →
    Follows t f.of b (declares_global st t f (has_any b) s) (declare_global st t f b s)
global_follows st t f b s =
    follows t f b _ _ false (linked_static t f.of (has_any b || not (is_external st)) (linked s t.text)) Static
    (λ k. init_static k t b >> give no_items) s (λ e k u. refl)

nothing_behind : (b : Behind) (k : ℕ) (t : Lexeme) (u : State) → has_any b ≡ false →
    (let d : Doing meant.Items = give no_items in d) u ≡ (init_static k t b >> give no_items) u
nothing_behind None k t u e = refl
nothing_behind (Some r) k t u e = absurd cc

external_follows : (t : Lexeme) (f : Formed) (b : Behind) (s : State) →
    Follows t f.of b (declares_external t f (has_any b) s) (declare_external t f b s)
external_follows t f b s =
    follows t f b _ false (has_any b) (linked_static t f.of false (linked s t.text)) Static (λ k. give no_items) s
    (λ e k u. nothing_behind b k t u e)

internal_follows : (t : Lexeme) (f : Formed) (b : Behind) (s : State) →
    Follows t f.of b (declares_internal t f (has_any b) s) (declare_internal t f b s)
internal_follows t f b s =
    follows t f b _ _ false (new_static t f.of false true) Static (λ k. init_static k t b >> give no_items) s
    (λ e k u. refl)

local_follows : (t : Lexeme) (f : Formed) (b : Behind) (s : State) →
    Follows t f.of b (declares_local t f (has_any b) s) (declare_local t f b s)
local_follows t f b s =
    follows t f b _ _ false (new_local t f.of) (λ k. Local k f.of)
    (λ k. init_local k t f.of b >>= λ xs. give (record { vars = k ∷ []; actions = xs })) s (λ e k u. refl)

block_follows : (st : Storage) (t : Lexeme) (f : Formed) (b : Behind) (s : State) →
    Follows t f.of b (declares_in_block st t f (has_any b) s) (declare_in_block st t f b s)
block_follows External t f b s = external_follows t f b s
block_follows Internal t f b s = internal_follows t f b s
block_follows Plain t f b s = local_follows t f b s
block_follows Defining_type t f b s = local_follows t f b s

chosen : (t : Lexeme) (of : Ty) (b : Behind) (c : Bool) (x y : Doing Entity) (x' y' : Doing meant.Items) (s : State) →
    Follows t of b (x s) (x' s) → Follows t of b (y s) (y' s) →
    Follows t of b ((if c then x else y) s) ((if c then x' else y') s)
chosen t of b true x y x' y' s h k = h
chosen t of b false x y x' y' s h k = k

object_follows : (st : Storage) (t : Lexeme) (f : Formed) (b : Behind) (s : State) →
    Follows t f.of b (declares_object st t f (has_any b) s) (declare_object s st t f b s)
object_follows st t f b s =
    chosen t f.of b (is_function f.of) (declares_function t f (has_any b))
    (if at_file_scope s then declares_global st t f (has_any b) else declares_in_block st t f (has_any b))
    (declare_function t f b) (if at_file_scope s then declare_global st t f b else declare_in_block st t f b) s
    (function_follows t f b s)
    (chosen t f.of b (at_file_scope s) (declares_global st t f (has_any b)) (declares_in_block st t f (has_any b))
    (declare_global st t f b) (declare_in_block st t f b) s (global_follows st t f b s)
    (block_follows st t f b s))

pub named_follows : (st : Storage) (t : Lexeme) (f : Formed) (b : Behind) (s : State) →
    Follows t f.of b (declares_named st t f (has_any b) s) (declare s st t f b s)
named_follows Defining_type t f b s = alias_follows t f b s
named_follows Plain t f b s = object_follows Plain t f b s
named_follows Internal t f b s = object_follows Internal t f b s
named_follows External t f b s = object_follows External t f b s
