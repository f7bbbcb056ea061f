-- Where positions go: what was made goes to what was made, and positions that differ to positions that differ.
use Rattle.std.proofs.Common.{◌≡◌, refl, sym, ap, ◌∙◌, ℕ, ◌<◌, ◌≤◌, Bool, true, false, not, is_some, Option, Some, None, List, [], ◌∷◌, true≢false, arith}
use Rattle.up_base.proofs.Tests.{both_true, not_true}
use Rattle.run_base.specs.Positions.{Key, Root, shared, made, field, Position}
use Rattle.run_matches.specs.Upgrades.{Upgrade, variable_key, is_flagged, is_flagged_some, is_sound, part_variable}
use Rattle.run_matches.specs.Maps.{World, Mark, mark, net_mark, IsMade, IsUnmade, IsMatched, moved, moved_key, key_or_none, has_key, has_counterpart, variable_in, is_sound_part}
use Rattle.run_matches.specs.Match.{StoreMatch}
use Rattle.memory_laws.specs.Changes.{GoesAlone, root_key}
use Rattle.memory_laws.specs.Statements.{KeysDiffer}
use Rattle.memory_laws.proofs.Positions.{at}

not_below : (a b : ℕ) → a < b → b ≤ a → ⊥
not_below a b lt le = omega arith

pub not_both_made : (a : Mark) (r : Root) → IsMade a r → IsUnmade a r → ⊥
not_both_made a (shared k) m u = u
not_both_made a (made p) m u = not_below p a.places m u
not_both_made a (field o k) m u = not_below o a.objects m u

pub moved_is_made : (U : Upgrade) (w : World) → StoreMatch U w → (r : Root) → IsMade (mark w.src) r → has_counterpart U w.map r ≡ true
    → IsMade (net_mark w.net) (moved U w.map r)
moved_is_made U w h (shared k) m c = tt
moved_is_made U w h (made p) m c = h.into p m (not_true (w.map.alone p) c)
moved_is_made U w h (field o k) m c = h.objects_into o m

-- ---- parts of positions

abbrev is_place : Position → Bool
is_place p = is_place_root p.root
  where
    is_place_root : Root → Bool
    is_place_root (shared k) = false
    is_place_root (made m) = true
    is_place_root (field o k) = false

abbrev number_in : Root → ℕ
number_in (shared k) = 0
number_in (made p) = p
number_in (field o k) = o

abbrev number_of : Position → ℕ
number_of p = number_in p.root

abbrev key_in : Root → Key
key_in (shared k) = k
key_in (made p) = []
key_in (field o k) = k

abbrev key_of : Position → Key
key_of p = key_in p.root

abbrev path_of : Position → List ℕ
path_of p = p.path

abbrev is_field : Position → Bool
is_field p = is_field_root p.root
  where
    is_field_root : Root → Bool
    is_field_root (shared k) = false
    is_field_root (made m) = false
    is_field_root (field o k) = true

abbrev first_of : Key → ℕ
first_of [] = 0
first_of (v ∷ more) = v

pub no_variable_place : (n v : ℕ) (r : Root) → root_key r ≡ Some (v ∷ []) → made n ≡ r → ⊥
no_variable_place n v r of e = absurd (cc (ap root_key e ∙ of))

pub same_variable_place : (v u : ℕ) (q r : Root) → root_key q ≡ Some (v ∷ []) → root_key r ≡ Some (u ∷ []) → q ≡ r → v ≡ u
same_variable_place v u q r is of e = cc (sym is ∙ (ap root_key e ∙ of))

-- ---- places

module _ (U : Upgrade) (w : World) (h : StoreMatch U w) where
  from_made : (n : ℕ) (path : List ℕ) → IsMatched U w (at (made n) path) → (r : Root) (rest : List ℕ) → IsMatched U w (at r rest)
      → at (made (w.map.places n)) path ≡ at (moved U w.map r) rest → at (made n) path ≡ at r rest
  from_made n path m (made k) rest x e =
      let same : n ≡ k = h.one_to_one n k m.is_made x.is_made (not_true (w.map.alone n) m.counterpart) (not_true (w.map.alone k) x.counterpart) (ap number_of e) in
      ap (λ z. at (made z) path) same ∙ ap (λ z. at (made k) z) (ap path_of e)
  from_made n path m (shared k) rest x e = absurd (true≢false (ap is_place e))
  from_made n path m (field o k) rest x e = absurd (true≢false (ap is_place e))

  pub place_goes_alone : (n : ℕ) (path : List ℕ) → IsMatched U w (at (made n) path) → GoesAlone U w (at (made n) path)
  place_goes_alone n path m p x e = from_made n path m p.root p.path x e

-- ---- variables of standard modules

pub key_there : (o : Option Key) → is_some o ≡ true → o ≡ Some (key_or_none o)
key_there None e = absurd (true≢false (sym e))
key_there (Some k) e = refl

module _ (U : Upgrade) (w : World) (v : ℕ) (key : Key) (is : variable_key U v ≡ Some key) (differs : (u : ℕ) → variable_key U u ≡ Some key → v ≡ u) where
  same_variable : (u : ℕ) → has_key U (Some u) ≡ true → moved_key U (v ∷ []) ≡ moved_key U (u ∷ []) → v ≡ u
  same_variable u c e = differs u (key_there (variable_key U u) c ∙ ap (λ z. Some z) (sym e ∙ ap key_or_none is))

  from_shared : (path : List ℕ) (k : Key) (rest : List ℕ) → IsMatched U w (at (shared k) rest)
      → at (shared (moved_key U (v ∷ []))) path ≡ at (shared (moved_key U k)) rest → at (shared (v ∷ [])) path ≡ at (shared k) rest
  from_shared path (u ∷ []) rest x e =
      ap (λ z. at (shared (z ∷ [])) path) (same_variable u x.counterpart (ap key_of e)) ∙ ap (λ z. at (shared (u ∷ [])) z) (ap path_of e)
  from_shared path [] rest x e = absurd (true≢false (sym x.counterpart))
  from_shared path (u ∷ t ∷ more) rest x e = absurd (true≢false (sym x.counterpart))

  from_key : (path : List ℕ) (r : Root) (rest : List ℕ) → IsMatched U w (at r rest)
      → at (shared (moved_key U (v ∷ []))) path ≡ at (moved U w.map r) rest → at (shared (v ∷ [])) path ≡ at r rest
  from_key path (shared k) rest x e = from_shared path k rest x e
  from_key path (made n) rest x e = absurd (true≢false (sym (ap is_place e)))
  from_key path (field o k) rest x e = absurd (true≢false (sym (ap is_field e)))

  -- a field in it
  pub part_goes_alone : (path : List ℕ) → GoesAlone U w (at (shared (v ∷ [])) path)
  part_goes_alone path p x e = from_key path p.root p.path x e

-- ---- variables of objects

module _ (U : Upgrade) (w : World) (h : StoreMatch U w) (o v : ℕ) (key : Key) (is : variable_key U v ≡ Some key)
    (differs : (u : ℕ) → variable_key U u ≡ Some key → v ≡ u) (made_object : o < w.src.next_object) where
  from_fields : (path : List ℕ) (p : ℕ) (k : Key) (rest : List ℕ) → IsMatched U w (at (field p k) rest)
      → at (field (w.map.objects o) (moved_key U (v ∷ []))) path ≡ at (field (w.map.objects p) (moved_key U k)) rest
      → at (field o (v ∷ [])) path ≡ at (field p k) rest
  from_fields path p (u ∷ []) rest x e =
      ap (λ z. at (field z (v ∷ [])) path) (h.objects_one_to_one o p made_object x.is_made (ap number_of e))
      ∙ (ap (λ z. at (field p (z ∷ [])) path) (same_variable U w v key is differs u x.counterpart (ap key_of e))
      ∙ ap (λ z. at (field p (u ∷ [])) z) (ap path_of e))
  from_fields path p [] rest x e = absurd (true≢false (sym x.counterpart))
  from_fields path p (u ∷ t ∷ more) rest x e = absurd (true≢false (sym x.counterpart))

  from_field : (path : List ℕ) (r : Root) (rest : List ℕ) → IsMatched U w (at r rest)
      → at (field (w.map.objects o) (moved_key U (v ∷ []))) path ≡ at (moved U w.map r) rest → at (field o (v ∷ [])) path ≡ at r rest
  from_field path (field p k) rest x e = from_fields path p k rest x e
  from_field path (made n) rest x e = absurd (true≢false (ap is_field e))
  from_field path (shared k) rest x e = absurd (true≢false (ap is_field e))

  pub field_goes_alone : (path : List ℕ) → GoesAlone U w (at (field o (v ∷ [])) path)
  field_goes_alone path p x e = from_field path p.root p.path x e

pub sound_root : (U : Upgrade) (v : ℕ) (path : List ℕ) → is_sound U v path ≡ true → is_flagged U v ≡ false
sound_root U v [] e = not_true (is_flagged U v) e
sound_root U v (k ∷ path) e =
    sound_root U v path (both_true (is_sound U v path) (not (is_flagged_some U (part_variable U v (k ∷ path)))) e).0

-- nothing that is compared goes to the key of variables whose declarations carry issues
module _ (U : Upgrade) (w : World) (j : ℕ) (key : Key) (flagged : (u : ℕ) → variable_key U u ≡ Some key → is_flagged U u ≡ true) where
  from_flagged : (r : Root) (path : List ℕ) → IsMatched U w (at r path) → at (field j key) path ≡ at (moved U w.map r) path → ⊥
  from_flagged (field p (u ∷ [])) path m e =
      absurd
      (true≢false
      (sym (flagged u (key_there (variable_key U u) m.counterpart ∙ ap (λ z. Some z) (sym (ap key_of e)))) ∙ sound_root U u path m.sound))
  from_flagged (field p []) path m e = absurd (true≢false (sym m.counterpart))
  from_flagged (field p (u ∷ t ∷ more)) path m e = absurd (true≢false (sym m.counterpart))
  from_flagged (made n) path m e = absurd (true≢false (ap is_field e))
  from_flagged (shared k) path m e = absurd (true≢false (ap is_field e))

  pub none_goes_there : (p : Position) → IsMatched U w p → field j key ≡ moved U w.map p.root → ⊥
  none_goes_there p m e = from_flagged p.root p.path m (ap (λ r. at r p.path) e)

-- ---- where the keys of variables differ, all positions

same_keys : (U : Upgrade) → KeysDiffer U → (k l : Key) (path rest : List ℕ) → has_key U (variable_in k) ≡ true → has_key U (variable_in l) ≡ true
    → is_sound_part U (variable_in k) path ≡ true → is_sound_part U (variable_in l) rest ≡ true → moved_key U k ≡ moved_key U l → k ≡ l
same_keys U d (v ∷ []) (u ∷ []) path rest a b x y e =
    let first : variable_key U v ≡ Some (key_or_none (variable_key U u)) = key_there (variable_key U v) a ∙ ap (λ z. Some z) e in
    ap (λ z. z ∷ [])
    (d v u (key_or_none (variable_key U u)) first (key_there (variable_key U u) b) (sound_root U v path x) (sound_root U u rest y))
same_keys U d [] l path rest a b x y e = absurd (true≢false (sym a))
same_keys U d (v ∷ v2 ∷ more) l path rest a b x y e = absurd (true≢false (sym a))
same_keys U d (v ∷ []) [] path rest a b x y e = absurd (true≢false (sym b))
same_keys U d (v ∷ []) (u ∷ u2 ∷ more) path rest a b x y e = absurd (true≢false (sym b))

module _ (U : Upgrade) (w : World) (h : StoreMatch U w) (d : KeysDiffer U) where
  from_root : (r s : Root) (path rest : List ℕ) → IsMatched U w (at r path) → IsMatched U w (at s rest)
      → at (moved U w.map r) path ≡ at (moved U w.map s) rest → at r path ≡ at s rest
  from_root (made n) s path rest m x e = from_made U w h n path m s rest x e
  from_root (shared k) (shared l) path rest m x e =
      ap (λ z. at (shared z) path) (same_keys U d k l path rest m.counterpart x.counterpart m.sound x.sound (ap key_of e)) ∙ ap (λ z. at (shared l) z) (ap path_of e)
  from_root (shared k) (made n) path rest m x e = absurd (true≢false (sym (ap is_place e)))
  from_root (shared k) (field o l) path rest m x e = absurd (true≢false (sym (ap is_field e)))
  from_root (field o k) (field p l) path rest m x e =
      ap (λ z. at (field z k) path) (h.objects_one_to_one o p m.is_made x.is_made (ap number_of e))
      ∙ (ap (λ z. at (field p z) path) (same_keys U d k l path rest m.counterpart x.counterpart m.sound x.sound (ap key_of e))
      ∙ ap (λ z. at (field p l) z) (ap path_of e))
  from_root (field o k) (made n) path rest m x e = absurd (true≢false (sym (ap is_place e)))
  from_root (field o k) (shared l) path rest m x e = absurd (true≢false (ap is_field e))

  pub root_goes_alone : (q : Position) → IsMatched U w q → GoesAlone U w q
  root_goes_alone q m p x e = from_root q.root p.root q.path p.path m x e
