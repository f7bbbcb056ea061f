-- What becomes of the files when a name is taken out, and when it is put behind the others.
use Rattle.std.proofs.Common.{◌≡◌, ◌≢◌, ℕ, Bool, true, false, cond, not, List, [], ◌∷◌, ◌++◌, refl, sym, ◌∙◌, Option, Some, None}
use Rattle.std.specs.Cmp.Lexicographic.{bytes_decides}
use Rattle.std.specs.Map.{lookup as lookup_by}
use Rattle.std.proofs.lemmas.Cmp.{nat_list_eq_equiv}
use Rattle.std.proofs.lemmas.Map.Entries.{lookup-filter-keys}
use Rattle.up_base.specs.Outside.{ChangesOnly}
use Rattle.up_base.specs.MemoryTwins.{Entries, is_spelt, lookup, without}

is_spelt-itself : (name : List ℕ) → is_spelt name name ≡ true
is_spelt-itself = nat_list_eq_equiv.refl

same_from_is_spelt : (a b : List ℕ) → is_spelt a b ≡ true → a ≡ b
same_from_is_spelt a b = (bytes_decides a b).0

is_false : (b : Bool) → b ≢ true → b ≡ false
is_false true h = absurd (h refl)
is_false false h = refl

is_spelt_other : (a b : List ℕ) → a ≢ b → is_spelt a b ≡ false
is_spelt_other a b h = is_false (is_spelt a b) (λ e. h (same_from_is_spelt a b e))

after_none : (b : Bool) (v w : List ℕ) (before after : Option (List ℕ)) → (before ≡ None → after ≡ Some w) → cond b (Some v) before ≡ None → cond b (Some v) after ≡ Some w
after_none true v w before after h none = cc
after_none false v w before after h none = h none

-- an entry behind the others is found where no other is
lookup_by-push : (test : List ℕ → Bool) (entries : Entries) (name bytes : List ℕ) → lookup_by test entries ≡ None → test name ≡ true → lookup_by test (entries ++ (name, bytes) ∷ []) ≡ Some bytes
lookup_by-push test [] name bytes none found = rw found refl
lookup_by-push test (e ∷ es) name bytes none found = after_none (test e.0) e.1 bytes _ _ (λ h. lookup_by-push test es name bytes h found) none

lookup_by-push_other : (test : List ℕ → Bool) (entries : Entries) (name bytes : List ℕ) → test name ≡ false → lookup_by test (entries ++ (name, bytes) ∷ []) ≡ lookup_by test entries
lookup_by-push_other test [] name bytes differs = rw differs refl
lookup_by-push_other test (e ∷ es) name bytes differs = rw (lookup_by-push_other test es name bytes differs) refl

pub lookup-without : (name : List ℕ) (entries : Entries) → lookup (without name entries) name ≡ None
lookup-without name entries = lookup-filter-keys (is_spelt name) (λ k. not (is_spelt name k)) false (λ k e. rw e refl) entries

pub without-changes_only : (name : List ℕ) (entries : Entries) → ChangesOnly name (lookup entries) (lookup (without name entries))
without-changes_only name entries n other =
    lookup-filter-keys (is_spelt n) (λ k. not (is_spelt name k)) true
    (λ k e. let same = same_from_is_spelt n k e in let differs : is_spelt name k ≡ false = is_spelt_other name k (λ h. other (same ∙ sym h)) in rw differs refl) entries

pub lookup-push : (name bytes : List ℕ) (entries : Entries) → lookup (without name entries ++ (name, bytes) ∷ []) name ≡ Some bytes
lookup-push name bytes entries = lookup_by-push (is_spelt name) (without name entries) name bytes (lookup-without name entries) (is_spelt-itself name)

pub push-changes_only : (name bytes : List ℕ) (entries : Entries) → ChangesOnly name (lookup entries) (lookup (without name entries ++ (name, bytes) ∷ []))
push-changes_only name bytes entries n other =
    lookup_by-push_other (is_spelt n) (without name entries) name bytes (is_spelt_other n name other) ∙ without-changes_only name entries n other
