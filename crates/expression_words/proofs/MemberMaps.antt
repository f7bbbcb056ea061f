-- Maps from numbers, to which one entry is added or in which one is counted.
use Rattle.std.proofs.Common.{◌≡◌, ℕ, ◌+◌, Bool, true, false, cond, ap, sym, ◌∙◌, refl, nat_eq, ◌==◌, ◌&&◌, arith}
use Rattle.std.specs.Prelude.{Option, Some, None, unwrap_or}
use Rattle.std.specs.Map.{lookup}
use Rattle.std.proofs.lemmas.Bool.{eqb-true}
use Rattle.indexmap.specs.IndexMap.{IndexMap, get, insert_entry}
use Rattle.indexmap.proofs.CallerLemmas.{insert_entry-new}
use Rattle.name_tables.specs.Scopes.{first_of}
use Rattle.name_tables.proofs.WordMaps.{eq_symm, lookup_last}
use Rattle.expression_words.specs.MemberTables.{counted}

pub number_added : {X S : Type 0} (m n : IndexMap ℕ X S) (k : ℕ) (v : X) → get nat_eq m k ≡ None → n.entries ≡ insert_entry nat_eq m.entries k v
    → (q : ℕ) → get nat_eq n q ≡ first_of (get nat_eq m q) (cond (k == q) (Some v) None)
number_added m n k v absent added q =
    ap (λ es. lookup (nat_eq q) es) (added ∙ insert_entry-new nat_eq m k v absent)
    ∙ lookup_last (nat_eq q) m.entries k v
    ∙ ap (λ b. first_of (get nat_eq m q) (cond b (Some v) None)) (eq_symm q k)

count_here : {S : Type 0} (m : IndexMap ℕ ℕ S) (file f : ℕ) (b : Bool) → (file == f) ≡ b
    → unwrap_or (cond b (Some (counted m file + 1)) (get nat_eq m f)) 0 ≡ counted m f + cond b 1 0
count_here m file f true e = ap (λ k. counted m k + 1) (eqb-true file f e)
count_here m file f false e = omega arith

-- one variable more of a file
pub counted_one : {S : Type 0} (m n : IndexMap ℕ ℕ S) (file count : ℕ) → count ≡ counted m file + 1
    → ((q : ℕ) → get nat_eq n q ≡ cond (nat_eq file q) (Some count) (get nat_eq m q)) → (f : ℕ) → counted n f ≡ counted m f + cond (file == f) 1 0
counted_one m n file count more updates f =
    ap (λ o. unwrap_or o 0) (updates f ∙ ap (λ k. cond (nat_eq file f) (Some k) (get nat_eq m f)) more) ∙ count_here m file f (file == f) refl

file_here : {S : Type 0} (m : IndexMap ℕ ℕ S) (file f : ℕ) (same b : Bool) → (file == f) ≡ b → cond (b && same) (Some (counted m file)) None ≡ cond (b && same) (Some (counted m f)) None
file_here m file f same true e = ap (λ k. cond same (Some (counted m k)) None) (eqb-true file f e)
file_here m file f same false e = refl

-- what is noted of a variable of a file, said of any file
pub noted_here : {S : Type 0} (m : IndexMap ℕ ℕ S) (file f v w : ℕ)
    → cond ((file == f) && (v == w)) (Some (counted m file)) None ≡ cond (nat_eq f file && nat_eq w v) (Some (counted m f)) None
noted_here m file f v w =
    file_here m file f (v == w) (file == f) refl
    ∙ ap (λ b. cond (b && (v == w)) (Some (counted m f)) None) (eq_symm file f)
    ∙ ap (λ b. cond (nat_eq f file && b) (Some (counted m f)) None) (eq_symm v w)
