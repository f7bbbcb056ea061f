-- Lists that are merged, and comments up to a line and behind it.
use Rattle.std.proofs.Common.{◌≡◌, ℕ, cond, List, [], ◌∷◌, ◌++◌, refl, sym, ap, ◌∙◌, subst}
use Rattle.std.specs.List.{flat_map}
use Rattle.std.proofs.lemmas.Grind.{flat_map-append}
use Rattle.std.proofs.lemmas.List.{map-append}
use Rattle.std.specs.Prelude.{nat_le}
use Rattle.up_base.proofs.Lists.{by_test}
use Rattle.net_tree.specs.Tree as net
use Rattle.written_trees.specs.Comments.{Comment, up_to, past, texts}
use Rattle.written_trees.specs.DeclaredMembers.{member_comments, line_comments, field_comments}
use Rattle.correspondence.specs.Comments.{line_comment, comment_of_field, comments_in}
use Rattle.correspondence.specs.Lists.{Merges, none, from_first, from_second}

pub merges_append : {A : Type 0} {xs ys zs : List A} (xs2 ys2 zs2 : List A) → Merges xs ys zs → Merges xs2 ys2 zs2 → Merges (xs ++ xs2) (ys ++ ys2) (zs ++ zs2)
merges_append xs2 ys2 zs2 none k = k
merges_append xs2 ys2 zs2 (from_first h) k = from_first (merges_append xs2 ys2 zs2 h k)
merges_append xs2 ys2 zs2 (from_second h) k = from_second (merges_append xs2 ys2 zs2 h k)

pub merges_first : {A : Type 0} (xs : List A) → Merges xs [] xs
merges_first [] = none
merges_first (x ∷ xs) = from_first (merges_first xs)

pub merges_second : {A : Type 0} (ys : List A) → Merges [] ys ys
merges_second [] = none
merges_second (y ∷ ys) = from_second (merges_second ys)

-- the first list in front of others
pub first_then : {A : Type 0} (xs xs2 ys zs : List A) → Merges xs2 ys zs → Merges (xs ++ xs2) ys (xs ++ zs)
first_then xs xs2 ys zs h = merges_append xs2 ys zs (merges_first xs) h

-- the second one
pub second_then : {A : Type 0} (ys xs ys2 zs : List A) → Merges xs ys2 zs → Merges xs (ys ++ ys2) (ys ++ zs)
second_then ys xs ys2 zs h = merges_append xs ys2 zs (merges_second ys) h

abbrev text_of : Comment → List ℕ
text_of c = c.1

pub up_and_past : (n : ℕ) (cs : List Comment) → up_to n cs ++ past n cs ≡ cs
up_and_past n [] = refl
up_and_past n (c ∷ cs) =
    by_test (nat_le c.0 n) (λ b. cond b (c ∷ up_to n cs) [] ++ cond b (past n cs) (c ∷ cs) ≡ c ∷ cs)
    (λ e. ap {B = List Comment} (λ ds. c ∷ ds) (up_and_past n cs))
    (λ e. refl)

pub split_texts : (n : ℕ) (cs : List Comment) → texts (up_to n cs) ++ texts (past n cs) ≡ texts cs
split_texts n cs = sym (map-append text_of (up_to n cs) (past n cs)) ∙ ap texts (up_and_past n cs)

pub none_between : (n : ℕ) (cs : List Comment) → up_to n (past n cs) ≡ []
none_between n [] = refl
none_between n (c ∷ cs) =
    by_test (nat_le c.0 n) (λ b. up_to n (cond b (past n cs) (c ∷ cs)) ≡ [])
    (λ e. none_between n cs)
    (λ e. ap {B = List Comment} (λ b. cond b (c ∷ up_to n cs) []) e)

-- comments up to a line stand before what follows
pub comments_then : (n : ℕ) (cs : List Comment) (ys zs : List (List ℕ)) → Merges (texts (past n cs)) ys zs → Merges (texts cs) ys (texts (up_to n cs) ++ zs)
comments_then n cs ys zs h =
    subst (λ xs. Merges xs ys (texts (up_to n cs) ++ zs)) (split_texts n cs)
    (first_then (texts (up_to n cs)) (texts (past n cs)) ys zs h)

-- ---- comments as members, lines and fields

pub members_back : (us : List (List ℕ)) → flat_map comments_in (member_comments us) ≡ us
members_back [] = refl
members_back (u ∷ us) = ap {B = List (List ℕ)} (λ vs. u ∷ vs) (members_back us)

pub lines_back : (us : List (List ℕ)) → flat_map line_comment (line_comments us) ≡ us
lines_back [] = refl
lines_back (u ∷ us) = ap {B = List (List ℕ)} (λ vs. u ∷ vs) (lines_back us)

pub fields_back : (us : List (List ℕ)) → flat_map comment_of_field (field_comments us) ≡ us
fields_back [] = refl
fields_back (u ∷ us) = ap {B = List (List ℕ)} (λ vs. u ∷ vs) (fields_back us)

pub behind_members : (us : List (List ℕ)) (ws : List net.Member) → flat_map comments_in (member_comments us ++ ws) ≡ us ++ flat_map comments_in ws
behind_members us ws =
    flat_map-append comments_in (member_comments us) ws ∙ ap {B = List (List ℕ)} (λ vs. vs ++ flat_map comments_in ws) (members_back us)

pub behind_lines : (us : List (List ℕ)) (ws : List net.Line) → flat_map line_comment (line_comments us ++ ws) ≡ us ++ flat_map line_comment ws
behind_lines us ws =
    flat_map-append line_comment (line_comments us) ws ∙ ap {B = List (List ℕ)} (λ vs. vs ++ flat_map line_comment ws) (lines_back us)

pub behind_fields : (us : List (List ℕ)) (ws : List net.Field) → flat_map comment_of_field (field_comments us ++ ws) ≡ us ++ flat_map comment_of_field ws
behind_fields us ws =
    flat_map-append comment_of_field (field_comments us) ws ∙ ap {B = List (List ℕ)} (λ vs. vs ++ flat_map comment_of_field ws) (fields_back us)
