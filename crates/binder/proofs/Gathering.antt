-- Variables that are put behind those so far, where their names are new.
use Rattle.std.proofs.Common.{◌≡◌, ℕ, ◌+◌, ◌<◌, Bool, true, false, cond, ◌||◌, List, [], ◌∷◌, ◌++◌, drop, get_or, length, map, filter, refl, sym, ap, ◌∙◌, append_assoc}
use Rattle.std.specs.Prelude.{Option, Some, None, is_some}
use Rattle.std.specs.Borrow.{Bor}
use Rattle.std.specs.List.{flat_map}
use Rattle.std.specs.Option.{option_copied}
use Rattle.std.proofs.lemmas.List.{at_drop_more, length-map, map-append}
use Rattle.std.proofs.lemmas.List.Elements.{filter-append}
use Rattle.up_base.specs.Names.{lower_case}
use Rattle.vb_tree.specs.declared.declared.ProcId.{ProcId}
use Rattle.name_tables.specs.Places.{noted}
use Rattle.name_tables.specs.Scopes.{first_of}
use Rattle.expression_words.specs.Meanings.{Scope}
use Rattle.binder.specs.declared.homes.Placed as homes
use Rattle.binder.specs.declared.locals.Gathered.{Gathered}
use Rattle.binder.specs.declared.locals.Implicit as code
use Rattle.binder.specs.declared.words.Word as words
use Rattle.binder.specs.ImplicitLocals.{Implicit, Placed, Word, implicit_at, implicit_in, implicit_words, is_among, is_missing, laters_after, with_new}
use Rattle.binder.specs.View.{implicit_of, placed_of, word_of, IsGathered}

-- ---- one after the other

with_new_then : (all xs ys : List Implicit) → with_new all (xs ++ ys) ≡ with_new (with_new all xs) ys
with_new_then all [] ys = refl
with_new_then all (x ∷ xs) ys = with_new_then (cond (is_among all x) all (all ++ x ∷ [])) xs ys

words_split : (S : Scope) (p : ProcId) (l : Placed) (w : Word) (ws : List Word)
    → implicit_words S p l (w ∷ ws) ≡ implicit_words S p l (w ∷ []) ++ implicit_words S p l ws
words_split S p l w ws =
    ap (λ (xs : List Word). map (implicit_at S.site.file p l) xs) (filter-append (is_missing S) (w ∷ []) ws)
    ∙ map-append (implicit_at S.site.file p l) (filter (is_missing S) (w ∷ [])) (filter (is_missing S) ws)

-- the loop over the words of a line
pub words_more : (S : Scope) (p : ProcId) (l : Placed) (before after : List Implicit) (ws : List words.Word) (i : ℕ) (w : words.Word)
    → i < length ws → w ≡ get_or ws i w
    → after ≡ with_new before (implicit_words S p l (word_of w ∷ []))
    → with_new after (implicit_words S p l (map word_of (drop (i + 1) ws))) ≡ with_new before (implicit_words S p l (map word_of (drop i ws)))
words_more S p l before after ws i w within item put =
    let rest : List Word = map word_of (drop (i + 1) ws) in
    ap (λ (xs : List Implicit). with_new xs (implicit_words S p l rest)) put
    ∙ sym (with_new_then before (implicit_words S p l (word_of w ∷ [])) (implicit_words S p l rest))
    ∙ ap (λ (xs : List Implicit). with_new before xs) (sym (words_split S p l (word_of w) rest))
    ∙ ap (λ (y : words.Word). with_new before (implicit_words S p l (map word_of (y ∷ drop (i + 1) ws)))) item
    ∙ sym (at_drop_more (λ (xs : List words.Word). with_new before (implicit_words S p l (map word_of xs))) ws i w within)

-- the loop over the lines of a procedure
pub lines_more : (S : Scope) (p : ProcId) (explicit : Bool) (before after : List Implicit) (ls : List homes.Placed) (i : ℕ) (l : homes.Placed)
    → i < length ls → l ≡ get_or ls i l
    → after ≡ with_new before (implicit_in S p explicit (placed_of l))
    → with_new after (flat_map (implicit_in S p explicit) (map placed_of (drop (i + 1) ls)))
    ≡ with_new before (flat_map (implicit_in S p explicit) (map placed_of (drop i ls)))
lines_more S p explicit before after ls i l within item put =
    let rest : List Implicit = flat_map (implicit_in S p explicit) (map placed_of (drop (i + 1) ls)) in
    ap (λ (xs : List Implicit). with_new xs rest) put
    ∙ sym (with_new_then before (implicit_in S p explicit (placed_of l)) rest)
    ∙ ap (λ (y : homes.Placed). with_new before (flat_map (implicit_in S p explicit) (map placed_of (y ∷ drop (i + 1) ls)))) item
    ∙ sym (at_drop_more (λ (xs : List homes.Placed). with_new before (flat_map (implicit_in S p explicit) (map placed_of xs))) ls i l within)

pub laters_more : (S : Scope) (p : ProcId) (explicit : Bool) (first : ℕ) (done after : List ℕ) (later : ℕ) (before : List Implicit) (items : List code.Implicit) (ls : List homes.Placed) (i : ℕ) (l : homes.Placed)
    → i < length ls → l ≡ get_or ls i l
    → map implicit_of items ≡ with_new before (implicit_in S p explicit (placed_of l)) → later ≡ first + length items → after ≡ done ++ later ∷ []
    → after ++ laters_after S p explicit first (map implicit_of items) (map placed_of (drop (i + 1) ls))
    ≡ done ++ laters_after S p explicit first before (map placed_of (drop i ls))
laters_more S p explicit first done after later before items ls i l within item put counted pushed =
    let rest : List Placed = map placed_of (drop (i + 1) ls) in
    ap (λ (ns : List ℕ). ns ++ laters_after S p explicit first (map implicit_of items) rest) pushed
    ∙ append_assoc done (later ∷ []) (laters_after S p explicit first (map implicit_of items) rest)
    ∙ ap (λ (n : ℕ). done ++ (n ∷ laters_after S p explicit first (map implicit_of items) rest)) (counted ∙ ap (λ (n : ℕ). first + n) (sym (length-map items implicit_of)))
    ∙ ap (λ (xs : List Implicit). done ++ ((first + length xs) ∷ laters_after S p explicit first xs rest)) put
    ∙ ap (λ (y : homes.Placed). done ++ laters_after S p explicit first before (map placed_of (y ∷ drop (i + 1) ls))) item
    ∙ sym (at_drop_more (λ (xs : List homes.Placed). done ++ laters_after S p explicit first before (map placed_of xs)) ls i l within)

-- ---- with a table of the names

pub told_word : (o : Option ℕ) (b : Bool) (n : ℕ) → is_some (first_of o (cond b (Some n) None)) ≡ (b || is_some o)
told_word None true n = refl
told_word None false n = refl
told_word (Some k) true n = refl
told_word (Some k) false n = refl

pub as_found : (r : Option (Bor ℕ)) (o : Option ℕ) (b : Bool) → option_copied r ≡ o → b ≡ is_some r → is_some o ≡ b
as_found None o b e h = ap is_some (sym e) ∙ sym h
as_found (Some x) o b e h = ap is_some (sym e) ∙ sym h

pub known_is_kept : (g : Gathered) (x : code.Implicit) → IsGathered g → is_some (noted g.names (lower_case x.name)) ≡ true
    → map implicit_of g.variables.items ≡ with_new (map implicit_of g.variables.items) (implicit_of x ∷ [])
known_is_kept g x table h =
    sym (ap (λ (b : Bool). cond b (map implicit_of g.variables.items) (map implicit_of g.variables.items ++ implicit_of x ∷ [])) (sym (table (lower_case x.name)) ∙ h))

pub new_is_put : (g : Gathered) (x : code.Implicit) → IsGathered g → is_some (noted g.names (lower_case x.name)) ≡ false
    → map implicit_of (g.variables.items ++ x ∷ []) ≡ with_new (map implicit_of g.variables.items) (implicit_of x ∷ [])
new_is_put g x table h =
    map-append implicit_of g.variables.items (x ∷ [])
    ∙ sym (ap (λ (b : Bool). cond b (map implicit_of g.variables.items) (map implicit_of g.variables.items ++ implicit_of x ∷ [])) (sym (table (lower_case x.name)) ∙ h))
