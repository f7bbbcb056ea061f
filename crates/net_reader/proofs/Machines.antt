-- A reader that goes from line to line, of which is known what was read in each state: what it reads stands, and where it stops is
-- the first line at which no such text goes on.
use Rattle.std.proofs.Common.{◌≡◌, ℕ, zero, suc, ◌+◌, ◌-◌, ◌≤◌, ◌<◌, Bool, true, false, nat_le, List, [], ◌∷◌, ◌++◌, length, take, refl, sym, ap, subst, ◌∙◌, arith, append_assoc, append-nil, Option, Some}
use Rattle.std.specs.List.{concat, list_all}
use Rattle.std.proofs.lemmas.Bool.{leb-true}
use Rattle.net_exprs.proofs.Words.{by_test, never}
use Rattle.net_reader.specs.FileLines.{file_lines}
use Rattle.net_reader.specs.ModuleReader.{Reading, behind_line, complete, stuck}
use Rattle.net_reader.specs.Places.{BeginsAs}
use Rattle.net_reader.proofs.FileCuts.{as_first, as_second, begins_as, ends_line, lines_joined}
use Rattle.net_reader.proofs.Tests.{and_true}

abbrev number_of : {X : Type 0} → Reading X → ℕ
number_of (stuck n) = n
number_of (complete x) = 0

abbrev is_complete : {X : Type 0} → Reading X → Bool
is_complete (stuck n) = false
is_complete (complete x) = true

pub same_number : {X : Type 0} (m n : ℕ) → ◌≡◌ {A = Reading X} (stuck m) (stuck n) → m ≡ n
same_number m n e = ap number_of e

pub stuck_complete : {X : Type 0} {A : Type 0} (n : ℕ) (x : X) → stuck n ≡ complete x → A
stuck_complete n x h = never (ap is_complete h)

pub not_both : {X : Type 0} {A : Type 0} (r : Reading X) (n : ℕ) (x : X) → r ≡ stuck n → r ≡ complete x → A
not_both r n x e h = never (sym (ap is_complete e) ∙ ap is_complete h)

module _ {S X : Type 0} (step : S → List ℕ → Option S) (stop : S → ℕ → Reading X) where
  abbrev pub runs : S → ℕ → List (List ℕ) → Reading X
  runs s n [] = stop s n
  runs s n (line ∷ lines) = behind_line n (step s line) (λ (next : S). runs next (suc n) lines)

  -- the end of a file is stuck at the line behind the last
  abbrev pub StopsAtEnd : Type 0
  StopsAtEnd = (s : S) (n l : ℕ) → stop s n ≡ stuck l → l ≡ n

  pub not_before : StopsAtEnd → (s : S) (n : ℕ) (lines : List (List ℕ)) (l : ℕ) → runs s n lines ≡ stuck l → n ≤ l
  not_before ends s n [] l e = omega (arith, ends s n l e)
  not_before ends s n (line ∷ lines) l e = go (step s line) (λ next. not_before ends next (suc n) lines l) e
    where
      go : (o : Option S) → ((next : S) → runs next (suc n) lines ≡ stuck l → suc n ≤ l) → behind_line n o (λ (next : S). runs next (suc n) lines) ≡ stuck l → n ≤ l
      go Option.None later h = omega (arith, same_number {X = X} n l h)
      go (Some next) later h = omega (arith, later next h)

  -- no line past the one behind the last
  pub not_past : StopsAtEnd → (s : S) (n : ℕ) (lines : List (List ℕ)) (l : ℕ) → runs s n lines ≡ stuck l → l ≤ n + length lines
  not_past ends s n [] l e = omega (arith, ends s n l e)
  not_past ends s n (line ∷ lines) l e = go (step s line) (λ next. not_past ends next (suc n) lines l) e
    where
      go : (o : Option S) → ((next : S) → runs next (suc n) lines ≡ stuck l → l ≤ suc n + length lines) → behind_line n o (λ (next : S). runs next (suc n) lines) ≡ stuck l → l ≤ n + suc (length lines)
      go Option.None later h = omega (arith, same_number {X = X} n l h)
      go (Some next) later h = omega (arith, later next h)

  -- lines that are the same up to the one at which it is stuck
  pub same_front : StopsAtEnd → (k : ℕ) (s : S) (n : ℕ) (lines own : List (List ℕ)) (l : ℕ) → l ≡ n + k → k < length lines → take (suc k) own ≡ take (suc k) lines
      → runs s n lines ≡ stuck l → runs s n own ≡ stuck l
  same_front ends k s n [] own l at within same e = absurd (omega (arith, within))
  same_front ends k s n (line ∷ lines) [] l at within same e = absurd (nothing_first line (take k lines) same)
    where
      nothing_first : (line : List ℕ) (lines : List (List ℕ)) → ◌≡◌ {A = List (List ℕ)} [] (line ∷ lines) → ⊥
      nothing_first line lines h = cc h
  same_front ends k s n (line ∷ lines) (first ∷ own) l at within same e =
      let parts = same_lists first line (take k own) (take k lines) same in
      ap (λ (first : List ℕ). behind_line n (step s first) (λ (next : S). runs next (suc n) own)) parts.0
      ∙ go k at within parts.1 (λ k next. same_front ends k next (suc n) lines own l) (step s line) e
    where
      same_lists : {A : Type 0} (x y : A) (xs ys : List A) → ◌≡◌ {A = List A} (x ∷ xs) (y ∷ ys) → (x ≡ y) × (xs ≡ ys)
      same_lists x y xs ys h = (cc h, cc h)

      go : (k : ℕ) → l ≡ n + k → k < suc (length lines) → take k own ≡ take k lines
          → ((k : ℕ) (next : S) → l ≡ suc n + k → k < length lines → take (suc k) own ≡ take (suc k) lines → runs next (suc n) lines ≡ stuck l → runs next (suc n) own ≡ stuck l)
          → (o : Option S) → behind_line n o (λ (next : S). runs next (suc n) lines) ≡ stuck l → behind_line n o (λ (next : S). runs next (suc n) own) ≡ stuck l
      go k at within same later Option.None h = h
      go zero at within same later (Some next) h = absurd (omega (arith, at, not_before ends next (suc n) lines l h))
      go (suc k) at within same later (Some next) h = later k next (omega (arith, at)) (omega (arith, within)) same h

  -- what is known of the bytes that were read up to a state
  module _ (Holds : List ℕ → S → Type 0) (ends : StopsAtEnd) (grows : (bytes : List ℕ) (s : S) (line : List ℕ) (next : S) → Holds bytes s → step s line ≡ Some next → Holds (bytes ++ line) next × (ends_line line ≡ true)) where
    -- the state before the line at which it is stuck
    pub record StateBefore (bytes : List ℕ) (n : ℕ) (lines : List (List ℕ)) (l : ℕ) : Type 0 where
      pub count : ℕ
      pub is : l ≡ n + count
      pub within : count ≤ length lines
      pub state : S
      pub holds : Holds (bytes ++ concat (take count lines)) state
      pub whole : list_all ends_line (take count lines) ≡ true

    at_once : (bytes : List ℕ) (s : S) (n : ℕ) (lines : List (List ℕ)) (l : ℕ) → Holds bytes s → l ≡ n → StateBefore bytes n lines l
    at_once bytes s n lines l h is = record { count = 0; is = omega (arith, is); within = omega arith; state = s; holds = subst (λ b. Holds b s) (sym (append-nil bytes)) h; whole = refl }

    pub state_before : (bytes : List ℕ) (s : S) (n : ℕ) (lines : List (List ℕ)) (l : ℕ) → Holds bytes s → runs s n lines ≡ stuck l → StateBefore bytes n lines l
    state_before bytes s n [] l h e = at_once bytes s n [] l h (ends s n l e)
    state_before bytes s n (line ∷ lines) l h e = go (λ next grown. state_before (bytes ++ line) next (suc n) lines l grown) (step s line) refl e
      where
        go : ((next : S) → Holds (bytes ++ line) next → runs next (suc n) lines ≡ stuck l → StateBefore (bytes ++ line) (suc n) lines l)
            → (o : Option S) → step s line ≡ o → behind_line n o (λ (next : S). runs next (suc n) lines) ≡ stuck l → StateBefore bytes n (line ∷ lines) l
        go later Option.None is k = at_once bytes s n (line ∷ lines) l h (sym (same_number {X = X} n l k))
        go later (Some next) is k =
            let grown = grows bytes s line next h is in
            let rest = later next grown.0 k in
            record {
              count = suc rest.count;
              is = omega (arith, rest.is);
              within = omega (arith, rest.within);
              state = rest.state;
              holds = subst (λ b. Holds b rest.state) (append_assoc bytes line (concat (take rest.count lines))) rest.holds;
              whole = and_true (ends_line line) (list_all ends_line (take rest.count lines)) grown.1 rest.whole;
            }

    -- the state at the end
    pub record StateAtEnd (bytes : List ℕ) (lines : List (List ℕ)) (x : X) : Type 0 where
      pub number : ℕ
      pub state : S
      pub holds : Holds (bytes ++ concat lines) state
      pub stops : stop state number ≡ complete x

    pub state_at_end : (bytes : List ℕ) (s : S) (n : ℕ) (lines : List (List ℕ)) (x : X) → Holds bytes s → runs s n lines ≡ complete x → StateAtEnd bytes lines x
    state_at_end bytes s n [] x h e = record { number = n; state = s; holds = subst (λ b. Holds b s) (sym (append-nil bytes)) h; stops = e }
    state_at_end bytes s n (line ∷ lines) x h e = go (λ next grown. state_at_end (bytes ++ line) next (suc n) lines x grown) (step s line) refl e
      where
        go : ((next : S) → Holds (bytes ++ line) next → runs next (suc n) lines ≡ complete x → StateAtEnd (bytes ++ line) lines x)
            → (o : Option S) → step s line ≡ o → behind_line n o (λ (next : S). runs next (suc n) lines) ≡ complete x → StateAtEnd bytes (line ∷ lines) x
        go later Option.None is k = stuck_complete n x k
        go later (Some next) is k =
            let rest = later next (grows bytes s line next h is).0 k in
            record { number = rest.number; state = rest.state; holds = subst (λ b. Holds b rest.state) (append_assoc bytes line (concat lines)) rest.holds; stops = rest.stops }

    module _ (start : S) (Is : X → Type 0) (text_of : X → List ℕ) (begins : Holds [] start) where
      -- each state leads to some whole text
      abbrev pub Completes : Type 0
      Completes = (bytes : List ℕ) (s : S) → Holds bytes s → (x : X) × Is x × ((more : List ℕ) × (text_of x ≡ bytes ++ more))

      abbrev pub AreRead : Type 0
      AreRead = (x : X) → Is x → runs start 1 (file_lines (text_of x)) ≡ complete x

      -- some text begins as this one does, so many lines
      abbrev pub Begins : (lines : ℕ) → (text : List ℕ) → Type 0
      Begins n text = (x : X) × Is x × BeginsAs n text (text_of x)

      pub faults : Completes → AreRead → (text : List ℕ) (l : ℕ) → runs start 1 (file_lines text) ≡ stuck l → (1 ≤ l) × Begins (l - 1) text × (Begins l text → ⊥)
      faults completes are_read text l e =
          let at = state_before [] start 1 (file_lines text) l begins e in
          let done = completes (concat (take at.count (file_lines text))) at.state at.holds in
          let back : at.count ≡ l - 1 = omega (arith, at.is) in (
            omega (arith, at.is),
            (done.0, done.1, subst (λ n. BeginsAs n text (text_of done.0)) back (begins_as at.count text (text_of done.0) done.2.0 at.within at.whole done.2.1)),
            (λ other. not_both (runs start 1 (file_lines (text_of other.0))) l other.0 (again at.count at.is at.within (text_of other.0) other.2) (are_read other.0 other.1)),
          )
        where
          suc_of : (count : ℕ) → l ≡ 1 + count → l ≡ suc count
          suc_of count is = omega (arith, is)

          again : (count : ℕ) → l ≡ 1 + count → count ≤ length (file_lines text) → (own : List ℕ) → BeginsAs l text own → runs start 1 (file_lines own) ≡ stuck l
          again count is within own same =
              by_test (nat_le l (length (file_lines text))) (λ b. nat_le l (length (file_lines text)) ≡ b → runs start 1 (file_lines own) ≡ stuck l)
              (λ t h. same_front ends count start 1 (file_lines text) (file_lines own) l is (omega (arith, is, leb-true l (length (file_lines text)) h))
              (subst (λ n. take n (file_lines own) ≡ take n (file_lines text)) (suc_of count is)
              (as_first (nat_le l (length (file_lines text))) (take l (file_lines own) ≡ take l (file_lines text)) (own ≡ text) h same)) e)
              (λ f h. ap (λ t. runs start 1 (file_lines t)) (as_second (nat_le l (length (file_lines text))) (take l (file_lines own) ≡ take l (file_lines text)) (own ≡ text) h same) ∙ e)
              refl

      -- at the end of a text, what was read is its whole
      abbrev pub Ends : Type 0
      Ends = (bytes : List ℕ) (s : S) (n : ℕ) (x : X) → Holds bytes s → stop s n ≡ complete x → Is x × (text_of x ≡ bytes)

      pub stands : Ends → (text : List ℕ) (x : X) → runs start 1 (file_lines text) ≡ complete x → Is x × (text ≡ text_of x)
      stands whole text x e =
          let at = state_at_end [] start 1 (file_lines text) x begins e in
          let last = whole (concat (file_lines text)) at.state at.number x at.holds at.stops in
          (last.0, sym (lines_joined text) ∙ sym last.1)
