-- Nodes over parts that were read.
use Rattle.std.proofs.Common.{◌≡◌, ℕ, suc, ◌+◌, ◌≤◌, ◌<◌, List, [], ◌∷◌, ◌++◌, length, drop, get_or, max, Some, refl}
use Rattle.std.proofs.Common.{ap}
use Rattle.std.proofs.Common.{sym, subst, ◌∙◌, arith}
use Rattle.std.proofs.Math.Seq.{drop-cons}
use Rattle.std.specs.Prelude.{Result, Ok, Err, MatchResult, IfOk}
use Rattle.ck_base.specs.Tokens.{Lexeme}
use Rattle.c_tree.specs.declared.syntax.Node.{Node}
use Rattle.c_tree.specs.declared.syntax.NodeKind.{NodeKind}
use Rattle.c_tree.specs.Syntax.{Syns, node, nil, more, one, joined, first_token}
use Rattle.c_tree.specs.Grammar.{declared_names}
use Rattle.c_phrases.specs.declared.items.Place.{Place}
use Rattle.c_phrases.specs.declared.cursor.Part.{Part}
use Rattle.c_phrases.specs.declared.cursor.Root.{Root}
use Rattle.c_phrases.specs.declared.cursor.Parts.{Parts}
use Rattle.c_phrases.specs.declared.cursor.Cursor.{Cursor}
use Rattle.c_phrases.specs.declared.cursor.Stop.{Stop}
use Rattle.c_phrases.specs.declared.cursor.Stop.TheVariants.{NoMemory}
use Rattle.c_phrases.specs.Reading.{Parsed}
use Rattle.c_phrases.specs.Got.{rest_of, IsPlaceOf, Describes, Made, Joined, Means, Holds, Grows, Reads}
use Rattle.c_phrases.proofs.Made.{grows_on, fails_memory, fails_same, holds_more, joined_assoc, joined_nil}
use Rattle.c_externals.specs.Blocks.{AreMeant, none, next, AreLow, JoinsAll, HoldsUpTo}

-- what a node over some parts is known by
abbrev pub Joins : Cursor → Cursor → NodeKind → Lexeme → Place → Parts → Result Part Stop → Type 0
Joins mid new k t first parts result =
    MatchResult result (λ part. Joined mid.nodes.items new.nodes.items k t first parts part) (λ e. e ≡ NoMemory)

-- it is what was read, where its parts are
pub joined_reads : (old mid new : Cursor) {k : NodeKind} {t : Lexeme} {first : Place} {parts : Parts} {xs : Syns}
    {read : Parsed} (result : Result Part Stop) →
    Joins mid new k t first parts result → IfOk result (λ part. Grows mid.nodes.items new.nodes.items) →
    rest_of new ≡ rest_of mid →
    Holds mid.nodes.items parts xs → Grows old.nodes.items mid.nodes.items → read ≡ Some (node k t xs, rest_of mid) →
    IsPlaceOf first (first_token (node k t xs)) → declared_names (node k t xs) ≡ [] → Reads old new read result
joined_reads old mid new {k = k} {t} {xs = xs} (Ok part) made grew rest holds grows reads place names = record {
  tree = node k t xs;
  means = made.means xs place names holds;
  reads = reads ∙ ap (λ v. Some (node k t xs, v)) (sym rest);
  grows = grows_on grows grew;
}
joined_reads old mid new {read = read} (Err e) made grew rest holds grows reads place names = fails_memory e read made

-- the same of a node whose root is given
pub made_reads : (old mid new : Cursor) {root : Root} {parts : Parts} {read : Parsed} (t : Lexeme) (xs : Syns)
    (result : Result Part Stop) →
    MatchResult result (λ part. Made mid.nodes.items new.nodes.items root parts part) (λ e. e ≡ NoMemory) →
    rest_of new ≡ rest_of mid →
    Describes root (node root.kind t xs) → Holds mid.nodes.items parts xs → Grows old.nodes.items mid.nodes.items →
    read ≡ Some (node root.kind t xs, rest_of mid) → Reads old new read result
made_reads old mid new {root = root} t xs (Ok part) made rest describes holds grows reads = record {
  tree = node root.kind t xs;
  means = made.means t xs describes holds;
  reads = reads ∙ ap (λ v. Some (node root.kind t xs, v)) (sym rest);
  grows = grows_on grows made.grows;
}
made_reads old mid new {read = read} t xs (Err e) made rest describes holds grows reads = fails_memory e read made

-- and of one without parts
pub leaf_reads : (old mid new : Cursor) {k : NodeKind} {t : Lexeme} {read : Parsed} (result : Result Part Stop) →
    MatchResult result (λ part. declared_names (node k t nil) ≡ [] → Means new.nodes.items part (node k t nil))
    (λ e. e ≡ NoMemory) → IfOk result (λ part. Grows mid.nodes.items new.nodes.items) → rest_of new ≡ rest_of mid →
    Grows old.nodes.items mid.nodes.items → declared_names (node k t nil) ≡ [] →
    read ≡ Some (node k t nil, rest_of mid) → Reads old new read result
leaf_reads old mid new {k = k} {t} (Ok part) made grew rest grows names reads = record {
  tree = node k t nil;
  means = made names;
  reads = reads ∙ ap (λ v. Some (node k t nil, v)) (sym rest);
  grows = grows_on grows grew;
}
leaf_reads old mid new {read = read} (Err e) made grew rest grows names reads = fails_memory e read made

-- where two readings are the same
pub reads_same : (old new : Cursor) {o p : Parsed} (result : Result Part Stop) → o ≡ p → Reads old new p result →
    Reads old new o result
reads_same old new (Ok part) same got =
    record { tree = got.tree; means = got.means; reads = same ∙ got.reads; grows = got.grows }
reads_same old new (Err e) same fails = fails_same e same fails

-- what was read behind something that was read before
pub reads_after : (old mid new : Cursor) {o p : Parsed} (result : Result Part Stop) → o ≡ p →
    Grows old.nodes.items mid.nodes.items → Reads mid new p result → Reads old new o result
reads_after old mid new (Ok part) same before got =
    record { tree = got.tree; means = got.means; reads = same ∙ got.reads; grows = grows_on before got.grows }
reads_after old mid new (Err e) same before fails = fails_same e same fails

-- Lists of parts

pub drop_at : {A : Type 0} (xs : List A) (i : ℕ) (x : A) → i < length xs →
    drop i xs ≡ get_or xs i x ∷ drop (i + 1) xs
drop_at xs i x within = let same : suc i ≡ i + 1 = omega arith in
    drop-cons xs i x within ∙ ap (λ v. get_or xs i x ∷ drop v xs) same

pub low_at : {h : ℕ} {left others : List Part} {part : Part} → AreLow h left → left ≡ part ∷ others →
    (part.height ≤ h) × AreLow h others
low_at {h} low e = subst (AreLow h) e low

pub up_to_begin : {nodes : List Node} {held : Parts} {left : List Part} {xs : Syns} → Holds nodes held nil →
    AreMeant nodes left xs → HoldsUpTo nodes held left xs
up_to_begin {xs = xs} h m = record { before = nil; behind = xs; holds = h; meant = m; same = refl }

pub up_to_step : {nodes : List Node} {held new : Parts} {left others : List Part} {part : Part} {xs : Syns} →
    HoldsUpTo nodes held left xs → left ≡ part ∷ others → new.kids.items ≡ held.kids.items ++ (part.number ∷ []) →
    new.height ≡ max held.height part.height → HoldsUpTo nodes new others xs
up_to_step {nodes} {held} {new} {left} {others} {part} {xs} u e kids tall =
    go u.behind (subst (λ v. AreMeant nodes v u.behind) e u.meant) u.same
  where
    go : (b : Syns) → AreMeant nodes (part ∷ others) b → xs ≡ joined u.before b → HoldsUpTo nodes new others xs
    go nil m same = elim m [ ]
    go (more x rest) (next m k) same = record {
      before = joined u.before (one x);
      behind = rest;
      holds = holds_more u.holds m kids tall;
      meant = k;
      same = same ∙ sym (joined_assoc u.before (one x) rest);
    }

pub up_to_end : {nodes : List Node} {held : Parts} {left : List Part} {xs : Syns} → HoldsUpTo nodes held left xs →
    left ≡ [] → Holds nodes held xs
up_to_end {nodes} {held} {left} {xs} u e = go u.behind (subst (λ v. AreMeant nodes v u.behind) e u.meant) u.same
  where
    go : (b : Syns) → AreMeant nodes [] b → xs ≡ joined u.before b → Holds nodes held xs
    go (more x rest) m same = elim m [ ]
    go nil none same = subst (λ v. Holds nodes held v) (sym (same ∙ joined_nil u.before)) u.holds

-- a node over parts that were read
pub meant_reads : (old mid new : Cursor) {k : NodeKind} {t : Lexeme} {parts : List Part} {xs : Syns} {read : Parsed}
    (result : Result Part Stop) →
    MatchResult result (λ part. JoinsAll mid.nodes.items new.nodes.items k t parts part) (λ e. e ≡ NoMemory) →
    IfOk result (λ part. Grows mid.nodes.items new.nodes.items) → rest_of new ≡ rest_of mid →
    AreMeant mid.nodes.items parts xs → Grows old.nodes.items mid.nodes.items → read ≡ Some (node k t xs, rest_of mid) →
    first_token (node k t xs) ≡ t → declared_names (node k t xs) ≡ [] → Reads old new read result
meant_reads old mid new {k = k} {t} {xs = xs} (Ok part) made grew rest meant grows reads first names = record {
  tree = node k t xs;
  means = made xs meant first names;
  reads = reads ∙ ap (λ v. Some (node k t xs, v)) (sym rest);
  grows = grows_on grows grew;
}
meant_reads old mid new {read = read} (Err e) made grew rest meant grows reads first names = fails_memory e read made
