-- The variable of which the key is that of a member.
use Rattle.std.proofs.Common.{◌≡◌, refl, ap, sym, ◌∙◌, ℕ, Bool, true, false, List, [], ◌∷◌, Option, Some, None, option_map, slice_get, true≢false}
use Rattle.std.specs.Prelude.{option_and_then, position}
use Rattle.vb_tree.specs.declared.declared.Owner.{Owner}
use Rattle.vb_tree.specs.declared.declared.Owner.TheVariants as owner
use Rattle.bound_tree.specs.Tree.{Variable}
use Rattle.net_tree.specs.Tree as net
use Rattle.run_base.specs.Positions.{Key}
use Rattle.net_run.specs.Members.{Code, member_named}
use Rattle.net_run.specs.Names.{key_of}
use Rattle.net_run.specs.Program.{static_key}
use Rattle.net_run.specs.Shapes.{members_of, module_at}
use Rattle.run_matches.specs.Upgrades.{Upgrade, code_of, declared_key, home_of, is_dim_named, member_key, owned_key, static_key_in, variable_key}

abbrev first_of : Option Key → ℕ
first_of None = 0
first_of (Some []) = 0
first_of (Some (a ∷ k)) = a

abbrev second_of : Option Key → ℕ
second_of None = 0
second_of (Some []) = 0
second_of (Some (a ∷ [])) = 0
second_of (Some (a ∷ b ∷ k)) = b

abbrev has_third : Option Key → Bool
has_third None = false
has_third (Some []) = false
has_third (Some (a ∷ [])) = false
has_third (Some (a ∷ b ∷ [])) = false
has_third (Some (a ∷ b ∷ c ∷ k)) = true

no_key : (key : Key) → ◌≡◌ {A = Option Key} None (Some key) → ⊥
no_key key e = cc e

-- the key of a Static is longer
not_static : (U : Upgrade) (name : List ℕ) (o : Option Code) (a b : ℕ) → option_and_then (static_key_in name) o ≡ Some (a ∷ b ∷ []) → ⊥
not_static U name None a b e = no_key (a ∷ b ∷ []) e
not_static U name (Some c) a b e = by (position (is_dim_named name) c.procedure.prologue) e
  where
    by : (o : Option ℕ) → option_map (static_key c) o ≡ Some (a ∷ b ∷ []) → ⊥
    by None h = no_key (a ∷ b ∷ []) h
    by (Some i) h = true≢false (ap has_third h)

-- it is one of the module, and the first member of its name is that one
pub record KeyParts (U : Upgrade) (home number v : ℕ) : Type 0 where
  pub variable : Variable
  pub is_variable : slice_get U.program.declarations.vars v ≡ Some variable
  pub file : ℕ
  pub is_owner : variable.owner ≡ owner.Module file
  pub at : home_of U file ≡ Some home
  pub member : net.Member
  pub is_first : member_named variable.name (members_of (module_at U.written home)) ≡ Some (number, member)

module _ (U : Upgrade) (home n v : ℕ) where
  abbrev key : Key
  key = key_of home n

  by_member : (z : Variable) (f h : ℕ) → slice_get U.program.declarations.vars v ≡ Some z → z.owner ≡ owner.Module f → home_of U f ≡ Some h
      → (o : Option (ℕ × net.Member)) → member_named z.name (members_of (module_at U.written h)) ≡ o
      → option_map (λ (found : ℕ × net.Member). key_of h found.0) o ≡ Some key → KeyParts U home n v
  by_member z f h is o e None g k = absurd (no_key key k)
  by_member z f h is o e (Some x) g k =
      let same : h ≡ home = ap first_of k in
      let place : x.0 ≡ n = ap second_of k in
      record {
        variable = z;
        is_variable = is;
        file = f;
        is_owner = o;
        at = e ∙ ap {B = Option ℕ} Some same;
        member = x.1;
        is_first = ap (λ h. member_named z.name (members_of (module_at U.written h))) (sym same) ∙ g ∙ ap (λ (i : ℕ). Some (i, x.1)) place;
      }

  by_home : (z : Variable) (f : ℕ) → slice_get U.program.declarations.vars v ≡ Some z → z.owner ≡ owner.Module f → (o : Option ℕ) → home_of U f ≡ o
      → option_and_then (member_key U z.name) o ≡ Some key → KeyParts U home n v
  by_home z f is o None e k = absurd (no_key key k)
  by_home z f is o (Some h) e k = by_member z f h is o e (member_named z.name (members_of (module_at U.written h))) refl k

  by_owner : (z : Variable) → slice_get U.program.declarations.vars v ≡ Some z → (o : Owner) → z.owner ≡ o → owned_key U z.name o ≡ Some key
      → KeyParts U home n v
  by_owner z is (owner.Module f) e k = by_home z f is e (home_of U f) refl k
  by_owner z is (owner.Static q) e k = absurd (not_static U z.name (code_of U q.0) home n k)
  by_owner z is (owner.Local q) e k = absurd (no_key key k)
  by_owner z is (owner.Value q) e k = absurd (no_key key k)
  by_owner z is (owner.Reference q) e k = absurd (no_key key k)
  by_owner z is (owner.Answer q) e k = absurd (no_key key k)
  by_owner z is (owner.Field t) e k = absurd (no_key key k)

  by_variable : (o : Option Variable) → slice_get U.program.declarations.vars v ≡ o → declared_key U o ≡ Some key → KeyParts U home n v
  by_variable None e k = absurd (no_key key k)
  by_variable (Some z) e k = by_owner z e z.owner refl k

  pub key_parts : variable_key U v ≡ Some (key_of home n) → KeyParts U home n v
  key_parts e = by_variable (slice_get U.program.declarations.vars v) refl e
