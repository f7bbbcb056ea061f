-- What is read of files, by the list of their modules.
use Rattle.std.proofs.Common.{◌≡◌, ℕ, suc, ◌-◌, ◌≤◌, Bool, true, false, cond, List, [], ◌∷◌, ◌++◌, length, map, get_or, refl, sym, ap, ◌∙◌, arith, Option, Some}
use Rattle.std.specs.Prelude.{is_none, is_some, not}
use Rattle.std.proofs.lemmas.List.{map-append}
use Rattle.net_tree.specs.Text.{is_support}
use Rattle.net_tree.specs.Tree.{Module, Project}
use Rattle.net_tree.specs.View.{module_of}
use Rattle.net_tree.specs.declared.project.NetModule.{NetModule}
use Rattle.net_reader.specs.FileSteps.{before_with, but_last, is_last_support, last_of, last_reading, project_by, started_by}
use Rattle.net_reader.specs.ModuleReader.{Reading, complete, stuck}
use Rattle.net_reader.specs.ProjectReader.{behind_module, listed, modules_before, note_before, response_in}

but_last_is : (ms : List Module) (m : Module) → but_last (ms ++ m ∷ []) ≡ ms
but_last_is [] m = refl
but_last_is (x ∷ []) m = refl
but_last_is (x ∷ y ∷ ms) m = ap (λ more. x ∷ more) (but_last_is (y ∷ ms) m)

last_of_is : (ms : List Module) (m : Module) → last_of (ms ++ m ∷ []) ≡ Some m
last_of_is [] m = refl
last_of_is (x ∷ []) m = refl
last_of_is (x ∷ y ∷ ms) m = last_of_is (y ∷ ms) m

together : (ms : List Module) → but_last ms ++ listed (last_of ms) ≡ ms
together [] = refl
together (x ∷ []) = refl
together (x ∷ y ∷ ms) = ap (λ more. x ∷ more) (together (y ∷ ms))

-- one module more
pub one_more : (known : Option (Option (List ℕ))) (head : Option (List ℕ)) (before after : List NetModule) (tree : NetModule) → after ≡ before ++ tree ∷ []
    → before_with (Some head) (map module_of after) ≡ behind_module (before_with known (map module_of before)) (record { note = head; tree = module_of tree })
one_more known head before after tree h =
    let ms = map module_of before in
    let m = module_of tree in
    let more : map module_of after ≡ ms ++ m ∷ [] = ap (map module_of) h ∙ map-append module_of before (tree ∷ []) in
    ap (before_with (Some head)) more
    ∙ ap (λ earlier. record { note = Some head; earlier = earlier; last = last_of (ms ++ m ∷ []) }) (but_last_is ms m ∙ sym (together ms))
    ∙ ap (λ last. record { note = Some head; earlier = but_last ms ++ listed (last_of ms); last = last }) (last_of_is ms m)

-- the last module is the last item
pub last_is : (sources : List NetModule) (last : NetModule) → 1 ≤ length sources → last ≡ get_or sources (length sources - 1) last → is_support (module_of last) ≡ is_last_support (last_of (map module_of sources))
last_is [] last h is = absurd (omega (arith, h))
last_is (x ∷ []) last h is = ap (λ (m : NetModule). is_support (module_of m)) is
last_is (x ∷ y ∷ more) last h is =
    let at : length (x ∷ y ∷ more) - 1 ≡ suc (length (y ∷ more) - 1) = omega arith in
    last_is (y ∷ more) last (omega arith) (is ∙ ap (λ i. get_or (x ∷ y ∷ more) i last) at)

-- the project of modules of which the last is taken off
pub without_last : (known : Option (Option (List ℕ))) (main : Option (List ℕ)) (before after items : List NetModule) (support : NetModule) (library : Bool) (head : Option (List ℕ)) → before ≡ after ++ support ∷ []
    → library ≡ is_none main → head ≡ note_before known → items ≡ after
    → complete (record { library = library; main = main; note = head; modules = map module_of items; support = module_of support }) ≡ project_by (before_with known (map module_of before)) (last_of (map module_of before)) main
without_last known main before after items support library head h is_library is_head are =
    let m = module_of support in
    let made : Bool → Option (List ℕ) → List Module → Reading Project = λ library head ms. complete (record { library = library; main = main; note = head; modules = ms; support = m }) in
    let more : map module_of before ≡ map module_of after ++ m ∷ [] = ap (map module_of) h ∙ map-append module_of after (support ∷ []) in
    ap (λ library. made library head (map module_of items)) is_library
    ∙ ap (λ head. made (is_none main) head (map module_of items)) is_head
    ∙ ap (λ items. made (is_none main) (note_before known) (map module_of items)) are
    ∙ ap (λ ms. made (is_none main) (note_before known) ms) (sym (but_last_is (map module_of after) m))
    ∙ ap (λ last. project_by (before_with known (map module_of after ++ m ∷ [])) last main) (sym (last_of_is (map module_of after) m))
    ∙ ap (λ ms. project_by (before_with known ms) (last_of ms) main) (sym more)

-- the response file behind the module of the support functions
pub started : (known : Option (Option (List ℕ))) (ms : List Module) (text : List ℕ) (r : Reading (Option (List ℕ))) → true ≡ is_last_support (last_of ms) → r ≡ response_in ms text
    → last_reading (before_with known ms) text ≡ started_by (before_with known ms) (last_of ms) r
started known ms text r h e =
    ap (λ b. cond b (started_by (before_with known ms) (last_of ms) (response_in (modules_before (before_with known ms)) text)) (stuck 0)) (sym h)
    ∙ ap (λ all. started_by (before_with known ms) (last_of ms) (response_in all text)) (together ms) ∙ ap (started_by (before_with known ms) (last_of ms)) (sym e)

pub none_by : (main : Option (List ℕ)) (b : Bool) → is_some main ≡ not b → b ≡ is_none main
none_by Option.None true h = refl
none_by Option.None false h = absurd (cc h)
none_by (Some main) true h = absurd (cc h)
none_by (Some main) false h = refl
