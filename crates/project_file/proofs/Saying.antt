-- What lines say with one more line.
use Rattle.std.proofs.Common.{◌≡◌, ℕ, Bool, true, false, ◌&&◌, ◌||◌, not, cond, List, [], ◌∷◌, ◌++◌, refl, sym, ◌∙◌, ap, codes, Some, None}
use Rattle.std.specs.List.{filter_map, cons_option}
use Rattle.std.proofs.lemmas.List.{append-nil, append_assoc}
use Rattle.std.proofs.lemmas.List.Elements.{filter_map-append}
use Rattle.vb_tree.specs.declared.project.ProjectFile.{ProjectFile}
use Rattle.vb_tree.specs.declared.project.ProjectKind.TheVariants.{Exe, OleDll}
use Rattle.vb_tree.specs.declared.project.Entry.{Entry}
use Rattle.vb_tree.specs.ProjectLines.{ProjectLine, blank, entry, type_line, startup_line, not_carried, other, entry_at, type_at, startup_at, entries_of, types_of, startups_of, is_nonempty, kind_of, startup_of, is_known_type, is_known_startup, is_exe, is_sub_main, with_earlier, dropped_at, dropped_of, file_of}
use Rattle.project_file.specs.declared.reading.ProjectReading.{ProjectReading}
use Rattle.project_file.specs.Reading.{HasSaid, AddsLine, TakesLine}

pub earlier_push : {X : Type 0} (before xs : List X) (x : X) → with_earlier before (xs ++ x ∷ []) ≡ with_earlier before xs ++ (before ++ xs, x) ∷ []
earlier_push before [] x = ap (λ b. (b, x) ∷ []) (sym (append-nil before))
earlier_push before (y ∷ ys) x = ap (λ l. (before, y) ∷ l) (earlier_push (before ++ y ∷ []) ys x ∙ ap (λ b. with_earlier (before ++ y ∷ []) ys ++ (b, x) ∷ []) (append_assoc before (y ∷ []) ys))

dropped_push : (lines : List (ℕ × ProjectLine)) (x : ℕ × ProjectLine) → dropped_of (lines ++ x ∷ []) ≡ dropped_of lines ++ cons_option (dropped_at (lines, x)) []
dropped_push lines x = ap (filter_map dropped_at) (earlier_push [] lines x) ∙ filter_map-append dropped_at (with_earlier [] lines) ((lines, x) ∷ [])

some_push : {X : Type 0} (xs : List X) (x : X) → is_nonempty (xs ++ x ∷ []) ≡ true
some_push [] x = refl
some_push (y ∷ ys) x = refl

kind_kept : (ts : List (List ℕ)) (v : List ℕ) → is_nonempty ts ≡ true → kind_of (ts ++ v ∷ []) ≡ kind_of ts
kind_kept [] v h = cc
kind_kept (t ∷ ts) v h = refl

kind_first : (ts : List (List ℕ)) (v : List ℕ) → is_nonempty ts ≡ false → kind_of (ts ++ v ∷ []) ≡ kind_of (v ∷ [])
kind_first [] v h = refl
kind_first (t ∷ ts) v h = cc

startup_kept : (ts : List (ℕ × List ℕ)) (v : ℕ × List ℕ) → is_nonempty ts ≡ true → startup_of (ts ++ v ∷ []) ≡ startup_of ts
startup_kept [] v h = cc
startup_kept (t ∷ ts) v h = refl

startup_first : (ts : List (ℕ × List ℕ)) (v : ℕ × List ℕ) → is_nonempty ts ≡ false → startup_of (ts ++ v ∷ []) ≡ startup_of (v ∷ [])
startup_first [] v h = refl
startup_first (t ∷ ts) v h = cc

no_startup : (ts : List (ℕ × List ℕ)) → is_nonempty ts ≡ false → startup_of ts ≡ None
no_startup [] h = refl
no_startup (t ∷ ts) h = cc

unless : (b : Bool) (n : ℕ) → cond b [] (n ∷ []) ≡ cons_option (cond (not false && not b) (Some n) None) []
unless true n = refl
unless false n = refl

-- a reading is what lines and one more say, part by part
record IsAdded (lines : List (ℕ × ProjectLine)) (x : ℕ × ProjectLine) (r : ProjectReading) : Type 0 where
  kind : r.file.kind ≡ kind_of (types_of lines ++ cons_option (type_at x) [])
  startup : r.file.startup ≡ startup_of (startups_of lines ++ cons_option (startup_at x) [])
  entries : r.file.entries ≡ entries_of lines ++ cons_option (entry_at x) []
  dropped : r.file.dropped ≡ dropped_of lines ++ cons_option (dropped_at (lines, x)) []
  has_type : r.has_type ≡ is_nonempty (types_of lines ++ cons_option (type_at x) [])
  has_startup : r.has_startup ≡ is_nonempty (startups_of lines ++ cons_option (startup_at x) [])

same_file : (a b : ProjectFile) → a.kind ≡ b.kind → a.startup ≡ b.startup → a.entries ≡ b.entries → a.dropped ≡ b.dropped → a ≡ b
same_file a b k s e d = λ i. record { kind = k i; startup = s i; entries = e i; dropped = d i }

added : (lines : List (ℕ × ProjectLine)) (x : ℕ × ProjectLine) (r : ProjectReading) → IsAdded lines x r → HasSaid (lines ++ x ∷ []) r
added lines x r h =
    let types = sym (filter_map-append type_at lines (x ∷ [])) in
    let startups = sym (filter_map-append startup_at lines (x ∷ [])) in
    let entries = sym (filter_map-append entry_at lines (x ∷ [])) in
    record {
      file = same_file r.file (file_of (lines ++ x ∷ [])) (h.kind ∙ ap kind_of types) (h.startup ∙ ap startup_of startups) (h.entries ∙ entries) (h.dropped ∙ sym (dropped_push lines x));
      has_type = h.has_type ∙ ap is_nonempty types;
      has_startup = h.has_startup ∙ ap is_nonempty startups;
    }

-- what was said, with nothing more
module _ (lines : List (ℕ × ProjectLine)) (old : ProjectReading) (h : HasSaid lines old) where
  kind_stays : old.file.kind ≡ kind_of (types_of lines ++ [])
  kind_stays = ap (λ f. f.kind) h.file ∙ ap kind_of (sym (append-nil (types_of lines)))

  startup_stays : old.file.startup ≡ startup_of (startups_of lines ++ [])
  startup_stays = ap (λ f. f.startup) h.file ∙ ap startup_of (sym (append-nil (startups_of lines)))

  entries_stay : old.file.entries ≡ entries_of lines ++ []
  entries_stay = ap (λ f. f.entries) h.file ∙ sym (append-nil (entries_of lines))

  dropped_stay : old.file.dropped ≡ dropped_of lines ++ []
  dropped_stay = ap (λ f. f.dropped) h.file ∙ sym (append-nil (dropped_of lines))

  has_type_stays : old.has_type ≡ is_nonempty (types_of lines ++ [])
  has_type_stays = h.has_type ∙ ap is_nonempty (sym (append-nil (types_of lines)))

  has_startup_stays : old.has_startup ≡ is_nonempty (startups_of lines ++ [])
  has_startup_stays = h.has_startup ∙ ap is_nonempty (sym (append-nil (startups_of lines)))

pub adds_blank : (n : ℕ) (old : ProjectReading) → AddsLine n blank old old
adds_blank n old = record { ended = refl; says = λ lines h. added lines (n, blank) old (record { kind = kind_stays lines old h; startup = startup_stays lines old h; entries = entries_stay lines old h; dropped = dropped_stay lines old h; has_type = has_type_stays lines old h; has_startup = has_startup_stays lines old h }) }

pub adds_other : (n : ℕ) (old : ProjectReading) → AddsLine n other old old
adds_other n old = record { ended = refl; says = λ lines h. added lines (n, other) old (record { kind = kind_stays lines old h; startup = startup_stays lines old h; entries = entries_stay lines old h; dropped = dropped_stay lines old h; has_type = has_type_stays lines old h; has_startup = has_startup_stays lines old h }) }

pub adds_not_carried : (n : ℕ) (old new : ProjectReading) → new.file.kind ≡ old.file.kind → new.file.startup ≡ old.file.startup → new.file.entries ≡ old.file.entries → new.file.dropped ≡ old.file.dropped ++ n ∷ [] → new.has_type ≡ old.has_type → new.has_startup ≡ old.has_startup → new.has_ended ≡ old.has_ended → AddsLine n not_carried old new
adds_not_carried n old new k s e d t u ended = record { ended = ended; says = λ lines h. added lines (n, not_carried) new (record { kind = k ∙ kind_stays lines old h; startup = s ∙ startup_stays lines old h; entries = e ∙ entries_stay lines old h; dropped = d ∙ ap (λ f. f.dropped ++ n ∷ []) h.file; has_type = t ∙ has_type_stays lines old h; has_startup = u ∙ has_startup_stays lines old h }) }

pub adds_entry : (n : ℕ) (class : Bool) (name file : List ℕ) (old new : ProjectReading) → new.file.kind ≡ old.file.kind → new.file.startup ≡ old.file.startup → new.file.entries ≡ old.file.entries ++ (record { line = n; class = class; name = name; file = file }) ∷ [] → new.file.dropped ≡ old.file.dropped → new.has_type ≡ old.has_type → new.has_startup ≡ old.has_startup → new.has_ended ≡ old.has_ended → AddsLine n (entry class name file) old new
adds_entry n class name file old new k s e d t u ended = record { ended = ended; says = λ lines h. added lines (n, entry class name file) new (record { kind = k ∙ kind_stays lines old h; startup = s ∙ startup_stays lines old h; entries = e ∙ ap (λ f. f.entries ++ (record { line = n; class = class; name = name; file = file }) ∷ []) h.file; dropped = d ∙ dropped_stay lines old h; has_type = t ∙ has_type_stays lines old h; has_startup = u ∙ has_startup_stays lines old h }) }

-- a `Type` line after another one
pub adds_type : (n : ℕ) (value : List ℕ) (old : ProjectReading) → old.has_type ≡ true → AddsLine n (type_line value) old old
adds_type n value old there = record {
  ended = refl;
  says = λ lines h.
      let some : is_nonempty (types_of lines) ≡ true = sym h.has_type ∙ there in
      added lines (n, type_line value) old (record {
        kind = ap (λ f. f.kind) h.file ∙ sym (kind_kept (types_of lines) value some);
        startup = startup_stays lines old h;
        entries = entries_stay lines old h;
        dropped = rw some (dropped_stay lines old h);
        has_type = there ∙ sym (some_push (types_of lines) value);
        has_startup = has_startup_stays lines old h;
      });
}

-- the first `Type` line
pub adds_first_type : (n : ℕ) (value : List ℕ) (old new : ProjectReading) → old.has_type ≡ false
    → new.file.kind ≡ kind_of (value ∷ []) → new.file.startup ≡ old.file.startup → new.file.entries ≡ old.file.entries → new.file.dropped ≡ old.file.dropped ++ cond (is_known_type value) [] (n ∷ [])
    → new.has_type ≡ true → new.has_startup ≡ old.has_startup → new.has_ended ≡ old.has_ended → AddsLine n (type_line value) old new
adds_first_type n value old new none k s e d t u ended = record {
  ended = ended;
  says = λ lines h.
      let some : is_nonempty (types_of lines) ≡ false = sym h.has_type ∙ none in
      added lines (n, type_line value) new (record {
        kind = k ∙ sym (kind_first (types_of lines) value some);
        startup = s ∙ startup_stays lines old h;
        entries = e ∙ entries_stay lines old h;
        dropped = rw some (d ∙ ap (λ f. f.dropped ++ cond (is_known_type value) [] (n ∷ [])) h.file ∙ ap (λ l. dropped_of lines ++ l) (unless (is_known_type value) n));
        has_type = t ∙ sym (some_push (types_of lines) value);
        has_startup = u ∙ has_startup_stays lines old h;
      });
}

-- a `Startup` line after another one
pub adds_startup : (n : ℕ) (value : List ℕ) (old : ProjectReading) → old.has_startup ≡ true → AddsLine n (startup_line value) old old
adds_startup n value old there = record {
  ended = refl;
  says = λ lines h.
      let some : is_nonempty (startups_of lines) ≡ true = sym h.has_startup ∙ there in
      added lines (n, startup_line value) old (record {
        kind = kind_stays lines old h;
        startup = ap (λ f. f.startup) h.file ∙ sym (startup_kept (startups_of lines) (n, value) some);
        entries = entries_stay lines old h;
        dropped = rw some (dropped_stay lines old h);
        has_type = has_type_stays lines old h;
        has_startup = there ∙ sym (some_push (startups_of lines) (n, value));
      });
}

-- the first `Startup` line
pub adds_first_startup : (n : ℕ) (value : List ℕ) (old new : ProjectReading) → old.has_startup ≡ false
    → new.file.kind ≡ old.file.kind → (old.file.startup ≡ None → new.file.startup ≡ startup_of ((n, value) ∷ [])) → new.file.entries ≡ old.file.entries → new.file.dropped ≡ old.file.dropped ++ cond (is_known_startup value) [] (n ∷ [])
    → new.has_type ≡ old.has_type → new.has_startup ≡ true → new.has_ended ≡ old.has_ended → AddsLine n (startup_line value) old new
adds_first_startup n value old new none k s e d t u ended = record {
  ended = ended;
  says = λ lines h.
      let some : is_nonempty (startups_of lines) ≡ false = sym h.has_startup ∙ none in
      added lines (n, startup_line value) new (record {
        kind = k ∙ kind_stays lines old h;
        startup = s (ap (λ f. f.startup) h.file ∙ no_startup (startups_of lines) some) ∙ sym (startup_first (startups_of lines) (n, value) some);
        entries = e ∙ entries_stay lines old h;
        dropped = rw some (d ∙ ap (λ f. f.dropped ++ cond (is_known_startup value) [] (n ∷ [])) h.file ∙ ap (λ l. dropped_of lines ++ l) (unless (is_known_startup value) n));
        has_type = t ∙ has_type_stays lines old h;
        has_startup = u ∙ sym (some_push (startups_of lines) (n, value));
      });
}

pub kept_known : (b : Bool) (xs : List ℕ) (n : ℕ) → b ≡ true → xs ≡ xs ++ cond b [] (n ∷ [])
kept_known true xs n e = sym (append-nil xs)
kept_known false xs n e = cc

pub more_unknown : (b : Bool) (xs ys : List ℕ) (n : ℕ) → b ≡ false → ys ≡ xs ++ n ∷ [] → ys ≡ xs ++ cond b [] (n ∷ [])
more_unknown true xs ys n e p = cc
more_unknown false xs ys n e p = p

pub kind_exe : (value : List ℕ) → is_exe value ≡ true → kind_of (value ∷ []) ≡ Exe
kind_exe value e = ap (λ b. cond b Exe OleDll) e

pub kind_dll : (value : List ℕ) → is_exe value ≡ false → kind_of (value ∷ []) ≡ OleDll
kind_dll value e = ap (λ b. cond b Exe OleDll) e

pub starts_main : (n : ℕ) (value : List ℕ) → is_sub_main value ≡ true → startup_of ((n, value) ∷ []) ≡ Some (n, codes "Sub Main")
starts_main n value e = ap (λ b. cond b (Some (n, codes "Sub Main")) None) e

pub starts_nowhere : (n : ℕ) (value : List ℕ) → is_sub_main value ≡ false → startup_of ((n, value) ∷ []) ≡ None
starts_nowhere n value e = ap (λ b. cond b (Some (n, codes "Sub Main")) None) e

pub left_true : (a b : Bool) → a ≡ true → (a || b) ≡ true
left_true true b e = refl
left_true false b e = cc

pub right_true : (a b : Bool) → b ≡ true → (a || b) ≡ true
right_true true b e = refl
right_true false b e = e

pub both_false : (a b : Bool) → a ≡ false → b ≡ false → (a || b) ≡ false
both_false true b p q = cc
both_false false b p q = q

pub same_entry : (xs ys : List Entry) (n : ℕ) (class : Bool) (name file m f : List ℕ) → name ≡ m → file ≡ f → ys ≡ xs ++ (record { line = n; class = class; name = name; file = file }) ∷ [] → ys ≡ xs ++ (record { line = n; class = class; name = m; file = f }) ∷ []
same_entry xs ys n class name file m f p q e = e ∙ (λ i. xs ++ (record { line = n; class = class; name = p i; file = q i }) ∷ [])

or_false : (b : Bool) → b ≡ (b || false)
or_false true = refl
or_false false = refl

pub takes_blank : (n : ℕ) (old : ProjectReading) → TakesLine n blank old old
takes_blank n old = record { ended = or_false old.has_ended; says = (adds_blank n old).says }

pub takes_other : (n : ℕ) (old : ProjectReading) → TakesLine n other old old
takes_other n old = record { ended = or_false old.has_ended; says = (adds_other n old).says }

pub takes_not_carried : (n : ℕ) (old new : ProjectReading) → AddsLine n not_carried old new → TakesLine n not_carried old new
takes_not_carried n old new h = record { ended = h.ended ∙ or_false old.has_ended; says = h.says }

pub nothing_said : (r : ProjectReading) → r.file.kind ≡ Exe → r.file.startup ≡ None → r.file.entries ≡ [] → r.file.dropped ≡ [] → r.has_type ≡ false → r.has_startup ≡ false → HasSaid [] r
nothing_said r k s e d t u = record { file = same_file r.file (file_of []) k s e d; has_type = t; has_startup = u }
