-- A name is declared and then initialised.
use Rattle.std.proofs.Common.{◌≡◌, ℕ, Bool, List, ◌∷◌, [], Option, Some, None, Result, Ok, Err, refl, sym, ap, subst}
use Rattle.std.proofs.Common.{◌∙◌}
use Rattle.ck_base.specs.declared.refusal.Refusal.{Refusal}
use Rattle.ck_base.specs.Tokens.{Lexeme}
use Rattle.c_tree.specs.Syntax.{Syn, Syns}
use Rattle.c_tree.specs.Types.{Ty}
use Rattle.c_tree.specs.Readings as meant
use Rattle.c_tree.specs.Readings.{Storage}
use Rattle.c_tree.specs.Scopes as scopes
use Rattle.c_tree.specs.Scopes.{State, Doing, Fault, give, look, ◌>>=◌}
use Rattle.c_tree.specs.Declarators as meant_types
use Rattle.c_tree.specs.Declarators.{formed}
use Rattle.c_tree.specs.Declarations.{Behind, has_any, declare, declare_named, declare_all, is_alone}
use Rattle.c_tree.specs.Programs.{reading, readings}
use Rattle.c_types.specs.Declares.{declares_named, storage_of, name_of, formed_of}
use Rattle.c_types.specs.declared.entries.Decl.{Decl}
use Rattle.c_types.specs.declared.entries.DeclKind.TheVariants as kinds
use Rattle.c_types.specs.declared.entries.Entry.{Entry}
use Rattle.c_types.specs.declared.entries.Entry.TheVariants as entries
use Rattle.c_types.specs.Calls.{IsEntity}
use Rattle.c_types.specs.Stands.{text_at}
use Rattle.c_tree.specs.declared.typed.Typed.{Typed}
use Rattle.c_expressions.specs.Nodes.{type_in}
use Rattle.c_elaborator.specs.declared.work.Work.{Work}
use Rattle.c_elaborator.specs.declared.work.Name.{Name}
use Rattle.c_elaborator.specs.Answers.{Keeps, freely, quietly, Done, Answers}
use Rattle.c_elaborator.specs.Parts.{token_of}
use Rattle.c_elaborator.proofs.Sequencing.{free_law, answers_at, then, failed, freed}
use Rattle.c_declarators.specs.declared.parts.Specified.{Specified}
use Rattle.c_declarators.specs.declared.parts.Formed.{Formed}
use Rattle.c_declarators.specs.Forming.{formed_in}
use Rattle.c_declarators.specs.Parts.{SpecifiedThere, IsSpecified, FormedThere, IsFormed, in_any}
use Rattle.c_declarators.specs.Steps.{forms}
use Rattle.c_elaborator.specs.declared.items.Items.{Items}
use Rattle.c_elaborator.specs.Items.{ItemsThere, IsItems}
use Rattle.c_statements.specs.Declaring.{declares, declares_list, EntryThere, IsEntry, initializes}
use Rattle.c_statements.proofs.Following.{goes_on, fails_with, fails_freed}
use Rattle.c_statements.proofs.Meaning.{Follows, initialized, named_follows}

entity_is : (q : Typed) (x : Entry) (e : scopes.Entity) (t : Lexeme) (of : Ty) (b : Behind) → IsEntity q x e →
    initialized e t of b ≡ initializes x t of b
entity_is q (entries.Var k) e t of b h = ap (λ (i : scopes.Entity). initialized i t of b) h.1
entity_is q (entries.Global k) e t of b h = ap (λ (i : scopes.Entity). initialized i t of b) h
entity_is q (entries.Fun k) e t of b h = ap (λ (i : scopes.Entity). initialized i t of b) h
entity_is q (entries.Typedef u) e t of b h = ap (λ (i : scopes.Entity). initialized i t of b) h
entity_is q (entries.Constant z) e t of b h = ap (λ (i : scopes.Entity). initialized i t of b) h
entity_is q (entries.Library k) e t of b h = ap (λ (i : scopes.Entity). initialized i t of b) h.1
entity_is q (entries.Tag u k) e t of b h = absurd h

-- what is declared of an object
abbrev pub decl_of : Specified → Name → Formed → Bool → Decl
decl_of s name f defines =
    record {
      name = name.span;
      pos = name.pos;
      of = f.of;
      faults = f.faults;
      what = kinds.Object;
      storage = s.storage;
      defines = defines;
    }

-- a name is declared, of a type that is known
abbrev declaring : Storage → Lexeme → Behind → meant_types.Formed → Doing meant.Items
declaring st t b g = look >>= λ s. declare s st t g b

follows_at : (st : Storage) (t : Lexeme) (f : meant_types.Formed) (b : Behind) (s : State)
    (r : Result (scopes.Entity × State) Fault) → declares_named st t f (has_any b) s ≡ r →
    Follows t f.of b r (declaring st t b f s)
follows_at st t f b s r e = subst (λ q. Follows t f.of b q (declaring st t b f s)) e (named_follows st t f b s)

declared_then : (v w x : Work) (st : Storage) (t : Lexeme) (f : meant_types.Formed) (b : Behind) (e : Entry)
    (r : Result Items Refusal) →
    Done freely v w (declares_named st t f (has_any b)) (Unit {0}) (IsEntry w e) →
    Answers freely w x (initializes e t f.of b) ItemsThere IsItems r →
    Answers freely v x (declaring st t b f) ItemsThere IsItems r
declared_then v w x st t f b e r a h =
    goes_on freely free_law v w x (declares_named st t f (has_any b)) (declaring st t b f) (initializes e t f.of b)
    (Unit {0}) (IsEntry w e) ItemsThere IsItems r a
    (λ o s p q k i. follows_at st t f b o (Ok (p, s)) q
    ∙ ap (λ (d : Doing meant.Items). d s) (entity_is w.nodes.p e p t f.of b i)) h

-- the declaration is that of these specifiers and of this type
same_declares : (u v : Work) (s : Specified) (name : Name) (f : Formed) (b : Behind) (defines : Bool) → Keeps u v →
    has_any b ≡ defines → declares v (decl_of s name f defines)
    ≡ declares_named (storage_of s.storage) (token_of u name) (formed_in v.nodes f) (has_any b)
same_declares u v s name f b defines k e =
    ap (λ (file : List ℕ). declares_named (storage_of s.storage) (name_of file (decl_of s name f defines))
    (formed_in v.nodes f) defines) k.file
    ∙ ap (λ (c : Bool). declares_named (storage_of s.storage) (token_of u name) (formed_in v.nodes f) c) (sym e)

-- the specifiers' type is formed first
named_begins : (u x : Work) (s : Specified) (y : meant.Specified) (e : meant.Derived) (b : Behind) (name : Name)
    (r : Result Items Refusal) → IsSpecified u s y → e.name ≡ Some (token_of u name) →
    Answers freely u x (forms (type_in u.nodes s.of) e.wraps >>= declaring (storage_of s.storage) (token_of u name) b)
    ItemsThere IsItems r → Answers freely u x (declare_named y e e.name b) ItemsThere IsItems r
named_begins u x s y e b name r h n a =
    let t = token_of u name in
    subst (λ (o : Option Lexeme). Answers freely u x (declare_named y e o b) ItemsThere IsItems r) (sym n)
    (answers_at freely u x (declare_named y e (Some t) b)
    (forms (type_in u.nodes s.of) e.wraps >>= declaring (storage_of s.storage) t b) ItemsThere IsItems r
    (λ o q. ap (λ (st : Storage). declare o st t (formed o y.of e.wraps) b o) h.storage
    ∙ ap (λ (of : Ty). declare o (storage_of s.storage) t (formed o of e.wraps) b o) h.of) a)

-- the type cannot be formed
pub named_unformed : (u v x : Work) (s : Specified) (y : meant.Specified) (e : meant.Derived) (b : Behind) (name : Name)
    (q : Refusal) → IsSpecified u s y → e.name ≡ Some (token_of u name) →
    Answers quietly u v (forms (type_in u.nodes s.of) e.wraps) FormedThere (in_any IsFormed) (Err q) →
    Answers freely u x (declare_named y e e.name b) ItemsThere IsItems (Err q)
named_unformed u v x s y e b name q h n a =
    let d = forms (type_in u.nodes s.of) e.wraps in
    named_begins u x s y e b name (Err q) h n
    (failed freely u v x d (declaring (storage_of s.storage) (token_of u name) b) FormedThere
    (in_any IsFormed) ItemsThere IsItems q (freed u v d FormedThere (in_any IsFormed) (Err q) a))

after_formed : (u v x : Work) (s : Specified) (y : meant.Specified) (e : meant.Derived) (b : Behind) (name : Name)
    (f : Formed) (r : Result Items Refusal) → IsSpecified u s y → e.name ≡ Some (token_of u name) →
    Done quietly u v (forms (type_in u.nodes s.of) e.wraps) (FormedThere v f) (in_any IsFormed v f) →
    Answers freely v x (declaring (storage_of s.storage) (token_of u name) b (formed_in v.nodes f)) ItemsThere
    IsItems r →
    Answers freely u x (declare_named y e e.name b) ItemsThere IsItems r
after_formed u v x s y e b name f r h n a g =
    let d = forms (type_in u.nodes s.of) e.wraps in
    named_begins u x s y e b name r h n (then freely free_law u v x d
    (declaring (storage_of s.storage) (token_of u name) b) (formed_in v.nodes f)
    (FormedThere v f) ItemsThere IsItems r (freed u v d FormedThere (in_any IsFormed) (Ok f) a) g)

-- the name cannot be declared
named_undeclared : (u v w x : Work) (s : Specified) (y : meant.Specified) (e : meant.Derived) (b : Behind) (name : Name)
    (f : Formed) (defines : Bool) (q : Refusal) → IsSpecified u s y → e.name ≡ Some (token_of u name) →
    has_any b ≡ defines →
    Done quietly u v (forms (type_in u.nodes s.of) e.wraps) (FormedThere v f) (in_any IsFormed v f) →
    Answers freely v w (declares v (decl_of s name f defines)) EntryThere IsEntry (Err q) →
    Answers freely u x (declare_named y e e.name b) ItemsThere IsItems (Err q)
named_undeclared u v w x s y e b name f defines q h n i a g =
    let st = storage_of s.storage in
    let t = token_of u name in
    let m = formed_in v.nodes f in
    after_formed u v x s y e b name f (Err q) h n a
    (fails_with freely v w x (declares_named st t m (has_any b))
    (declaring st t b m) EntryThere IsEntry ItemsThere IsItems q
    (λ o fault k. follows_at st t m b o (Err fault) k)
    (subst (λ (d : Doing scopes.Entity). Answers freely v w d EntryThere IsEntry (Err q))
    (same_declares u v s name f b defines a.grows.keeps i) g))

-- the same where it is said otherwise what is declared
pub named_refused : (u v w x : Work) (s : Specified) (y : meant.Specified) (e : meant.Derived) (b : Behind)
    (name : Name) (f : Formed) (defines : Bool) (d : Decl) (q : Refusal) → IsSpecified u s y →
    e.name ≡ Some (token_of u name) → has_any b ≡ defines →
    Done quietly u v (forms (type_in u.nodes s.of) e.wraps) (FormedThere v f) (in_any IsFormed v f) →
    d ≡ decl_of s name f defines → Answers freely v w (declares v d) EntryThere IsEntry (Err q) →
    Answers freely u x (declare_named y e e.name b) ItemsThere IsItems (Err q)
named_refused u v w x s y e b name f defines d q h n i a g c =
    named_undeclared u v w x s y e b name f defines q h n i a
    (subst (λ (z : Decl). Answers freely v w (declares v z) EntryThere IsEntry (Err q)) g c)

-- the name is declared, and what it denotes gets its value
pub named_answers : (u v w x : Work) (s : Specified) (y : meant.Specified) (e : meant.Derived) (b : Behind)
    (name : Name) (f : Formed) (defines : Bool) (entity : Entry) (r : Result Items Refusal) → IsSpecified u s y →
    e.name ≡ Some (token_of u name) → has_any b ≡ defines →
    Done quietly u v (forms (type_in u.nodes s.of) e.wraps) (FormedThere v f) (in_any IsFormed v f) →
    Done freely v w (declares v (decl_of s name f defines)) (Unit {0}) (IsEntry w entity) →
    Answers freely w x (initializes entity (token_of w name) (type_in w.nodes f.of) b) ItemsThere IsItems r →
    Answers freely u x (declare_named y e e.name b) ItemsThere IsItems r
named_answers u v w x s y e b name f defines entity r h n i a g c =
    let st = storage_of s.storage in
    let t = token_of u name in
    let m = formed_in v.nodes f in
    let token : List ℕ → Lexeme =
    λ file. record { kind = t.kind; text = text_at file name.span; span = name.span; pos = name.pos } in
    let same : token_of w name ≡ t = ap token (g.grows.file ∙ a.grows.keeps.file) in
    after_formed u v x s y e b name f r h n a
    (declared_then v w x st t m b entity r
    (subst (λ (d : Doing scopes.Entity). Done freely v w d (Unit {0}) (IsEntry w entity))
    (same_declares u v s name f b defines a.grows.keeps i) g)
    (subst (λ (z : Lexeme). Answers freely w x (initializes entity z m.of b) ItemsThere IsItems r) same
    (subst (λ (of : Ty). Answers freely w x (initializes entity (token_of w name) of b) ItemsThere IsItems r)
    (g.grows.types f.of a.there) c)))

-- the specifiers are refused
pub list_unspecified : (u v w : Work) (x : Syn) (ys : Syns) (b : Bool) (e : Refusal) → is_alone (readings ys) ≡ b →
    Answers quietly u v ((reading x).specified b) SpecifiedThere (in_any IsSpecified) (Err e) →
    Answers freely u w (declares_list x ys) ItemsThere IsItems (Err e)
list_unspecified u v w x ys b e i a =
    subst (λ (t : Bool). Answers freely u w ((reading x).specified t >>= λ s. declare_all s (readings ys)) ItemsThere
    IsItems (Err e)) (sym i)
    (fails_freed u v w ((reading x).specified b) (λ s. declare_all s (readings ys)) SpecifiedThere
    (in_any IsSpecified) ItemsThere IsItems e a)
