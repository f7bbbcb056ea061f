-- The module of a site is the first one in its file, where modules stand in different files.
use Rattle.std.proofs.Common.{◌≡◌, inl, inr, ℕ, suc, ◌+◌, ◌<◌, Bool, true, false, not, nat_eq, List, [], ◌∷◌, length, Some, None, slice_get, refl, sym, ap, subst, ◌∙◌, lt-ltb, eq-eqb, eqb-true, arith}
use Rattle.std.specs.Prelude.{cond, nat_lt, position}
use Rattle.std.specs.List.{position_or_len}
use Rattle.vb_tree.specs.Tree.{Module, Project}
use Rattle.bound_tree.specs.declared.body.Bound.{Bound}
use Rattle.bound_tree.specs.View.{program_of}
use Rattle.written_trees.specs.Projects.{first_numbers}
use Rattle.broken_rules.specs.View.{IsBoundTo}
use Rattle.run_matches.specs.Sites.{Site, site_of, sites_from}
use Rattle.upgrade_laws.specs.Ordered.{AreOrderly}
use Rattle.upgrade_laws.specs.Separate.{HaveDifferentFiles}
use Rattle.upgrade_laws.proofs.Lists.{each_got}
use Rattle.upgrade_laws.proofs.Together.{StandsAmong, elsewhere, site_file, sites_among}

abbrev is_of : (file : ℕ) → Module → Bool
is_of file m = nat_eq m.file file

-- the module of a site, of modules that are numbered from one on
record IsFirst (home : ℕ) (ms : List Module) (s : Site) : Type 0 where
  number : ℕ
  is_home : s.home ≡ home + number
  first : position_or_len (is_of (site_file s)) ms ≡ number
  low : number < length ms

from_here : (n : ℕ) → n ≡ n + 0
from_here n = omega arith

from_next : (n i : ℕ) → suc n + i ≡ n + suc i
from_next n i = omega arith

first_in_file : (home : ℕ) (ms : List Module) (s : Site) → HaveDifferentFiles ms → StandsAmong home ms s → IsFirst home ms s
first_in_file home [] s d h = absurd h
first_in_file home (m ∷ ms) s d (inl h) =
    let here : is_of (site_file s) m ≡ true = eq-eqb m.file (site_file s) (sym h.1) in
    record {
      number = 0;
      is_home = h.0 ∙ from_here home;
      first = ap (λ (b : Bool). cond (not b) (1 + position_or_len (is_of (site_file s)) ms) 0) here;
      low = omega arith;
    }
first_in_file home (m ∷ ms) s d (inr h) =
    let more : IsFirst (suc home) ms s = first_in_file (suc home) ms s d.1 h in
    let there : is_of (site_file s) m ≡ false = other (is_of (site_file s) m) refl in
    let first : position_or_len (is_of (site_file s)) (m ∷ ms) ≡ 1 + position_or_len (is_of (site_file s)) ms =
    ap (λ (b : Bool). cond (not b) (1 + position_or_len (is_of (site_file s)) ms) 0) there in
    let place = more.first in
    let low = more.low in
    record {
      number = suc more.number;
      is_home = more.is_home ∙ from_next home more.number;
      first = omega (arith, first, place);
      low = omega (arith, low);
    }
  where
    other : (b : Bool) → is_of (site_file s) m ≡ b → b ≡ false
    other true e = absurd (elsewhere (suc home) m.file ms s d.0 (sym (eqb-true m.file (site_file s) e)) h)
    other false e = refl

from_zero : (n : ℕ) → n ≡ 0 + n
from_zero n = omega arith

home_is_first : (ms : List Module) (p : ℕ) (s : Site) → HaveDifferentFiles ms → slice_get (sites_from 0 first_numbers ms) p ≡ Some s
    → position (is_of (site_file s)) ms ≡ Some s.home
home_is_first ms p s d e =
    let f : IsFirst 0 ms s = first_in_file 0 ms s d (each_got (StandsAmong 0 ms) (sites_from 0 first_numbers ms) p s e (sites_among 0 first_numbers ms)) in
    ap (λ (n : ℕ). cond (nat_lt n (length ms)) (Some n) None) f.first
    ∙ ap (λ (b : Bool). cond b (Some f.number) None) (lt-ltb f.number (length ms) f.low)
    ∙ ap (λ (n : ℕ). Some n) (from_zero f.number ∙ sym f.is_home)

pub sites_are_home : (P : Project) (b : Bound) → IsBoundTo P b → AreOrderly P.modules → (p : ℕ) (s : Site) → site_of (program_of b).declarations p ≡ Some s
    → position (λ (m : Module). nat_eq m.file s.source_module.file) (program_of b).declarations.project.modules ≡ Some s.home
sites_are_home P b is o =
    subst
    (λ (Q : Project). (p : ℕ) (s : Site) → slice_get (sites_from 0 first_numbers Q.modules) p ≡ Some s
    → position (λ (m : Module). nat_eq m.file s.source_module.file) Q.modules ≡ Some s.home) (sym is.project)
    (λ p s e. home_is_first P.modules p s o.files e)
