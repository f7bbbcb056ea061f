-- The program calls-static-locals, what it puts out and how it ends.
use Rattle.std.proofs.Common.{◌≡◌, refl, ◌++◌, List, ℤ, pos, Bool, true, false, [], ◌∷◌, codes, Some, None}
use Rattle.vb_tree.specs.declared.declared.VarId.{VarId}
use Rattle.bound_tree.specs.Tree as bound
use Rattle.net_tree.specs.Tree as net
use Rattle.net_tree.specs.Types as net_types
use Rattle.vb_tree.specs.BoundTree as types
use Rattle.vb_tree.specs.Tree as vb
use Rattle.vb_tree.specs.declared.expression.BinOp.TheVariants as bin
use Rattle.net_tree.specs.declared.expression.CastWord.TheVariants as cast
use Rattle.net_tree.specs.declared.declaration.NetClose.TheVariants as close
use Rattle.vb_tree.specs.declared.declared.ProcKind.TheVariants as kind
use Rattle.vb_tree.specs.declared.token.Literal6.TheVariants as literal
use Rattle.bound_tree.specs.declared.body.Mention.TheVariants as mention
use Rattle.bound_tree.specs.declared.declared.Named.TheVariants as named
use Rattle.net_tree.specs.declared.expression.NetBin.TheVariants as net_bin
use Rattle.net_tree.specs.declared.declaration.NetPassing.TheVariants as net_passing
use Rattle.net_tree.specs.declared.declaration.NetVisibility.TheVariants as net_visible
use Rattle.bound_tree.specs.declared.expression.Origin.TheVariants as origin
use Rattle.vb_tree.specs.declared.declared.Owner.TheVariants as owner
use Rattle.vb_tree.specs.declared.project.ProjectKind.TheVariants as project_kind
use Rattle.bound_tree.specs.declared.declared.Scope.TheVariants as scope
use Rattle.vb_tree.specs.declared.token.Suffix.TheVariants as suffix
use Rattle.vb_tree.specs.declared.value.Value6.TheVariants as value
use Rattle.vb_tree.specs.declared.form_parts.VarWord.TheVariants as var
use Rattle.vb_tree.specs.declared.form_parts.Visibility.TheVariants as visible
use Rattle.std.specs.Fmt.{digits}
use Rattle.example_runs.proofs.Said.{ended, line, ran, ran_written, runnable_of}
use Rattle.vb6_run.specs.Runnables.{Runnable}

abbrev pub project : vb.Project
project = (record {
  file = (record {
    kind = project_kind.Exe;
    startup = (Some (3, (codes "Sub Main")));
    entries = ((record
        { line = 2; class = false; name = (codes "Main1"); file = (codes "Main1.bas") }) ∷ []);
    dropped = ([]);
  });
  modules = ((record {
    file = 1;
    name = (codes "Main1");
    class = false;
    members = (
        (vb.proc (record {
          place = (record { file = 1; line = 1 });
          text = (codes "Sub Tick()");
          form = (vb.sub_head (record {
            visibility = None;
            name = (codes "Tick");
            suffix = suffix.Absent;
            params = ([]);
          }));
        }) (vb.next_node
        (vb.line (record {
          place = (record { file = 1; line = 2 });
          text = (codes "Static n As Long, s As String");
          form = (vb.variables
              var.Static ((record {
                name = (codes "n");
                suffix = suffix.Absent;
                bounds = None;
                auto = false;
                ty = (Some (vb.named (codes
                    "Long")));
              }) ∷ (record {
                name = (codes "s");
                suffix = suffix.Absent;
                bounds = None;
                auto = false;
                ty = (Some (vb.named
                    (codes "String")));
              }) ∷ []));
        })) (vb.next_node
        (vb.line (record {
          place = (record { file = 1; line = 3 });
          text = (codes "n = n + 1");
          form = (vb.assign (vb.word (codes
              "n") suffix.Absent) (vb.binary bin.Add (vb.word (codes "n") suffix.Absent) (vb.lit (literal.Int (pos 1) false))));
        }))
        (vb.next_node
        (vb.line (record {
          place = (record { file = 1; line = 4 });
          text = (codes "s = s & n");
          form = (vb.assign (vb.word (codes
              "s") suffix.Absent) (vb.binary bin.Concat (vb.word (codes "s") suffix.Absent) (vb.word (codes "n") suffix.Absent)));
        }))
        (vb.next_node
        (vb.line (record {
          place = (record { file = 1; line = 5 });
          text = (codes "Debug.Print n; s");
          form = (vb.debug_print
              ((vb.word (codes "n") suffix.Absent) ∷ (vb.word (codes "s") suffix.Absent) ∷ []) false);
        })) vb.no_nodes)))) (record {
          place = (record { file = 1; line = 6 });
          text = (codes "End Sub");
          form = vb.end_sub;
        })) ∷
        (vb.proc (record {
          place = (record { file = 1; line = 8 });
          text = (codes "Sub Main()");
          form = (vb.sub_head (record {
            visibility = None;
            name = (codes "Main");
            suffix = suffix.Absent;
            params = ([]);
          }));
        }) (vb.next_node
        (vb.line (record {
          place = (record { file = 1; line = 9 });
          text = (codes "Tick");
          form = (vb.invoke (vb.word (codes
              "Tick") suffix.Absent) vb.no_args);
        })) (vb.next_node
        (vb.line (record {
          place = (record { file = 1; line = 10 });
          text = (codes "Tick");
          form = (vb.invoke (vb.word (codes
              "Tick") suffix.Absent) vb.no_args);
        })) (vb.next_node
        (vb.line (record {
          place = (record { file = 1; line = 11 });
          text = (codes "Tick");
          form = (vb.invoke (vb.word (codes
              "Tick") suffix.Absent) vb.no_args);
        })) vb.no_nodes))) (record {
          place = (record { file = 1; line = 12 });
          text = (codes
              "End Sub");
          form = vb.end_sub;
        })) ∷ []);
    comments = ([]);
  }) ∷ []);
})

abbrev pub declarations : bound.Declarations
declarations = (record {
  project = project;
  names = (
      (record { name = (codes "Tick"); scope = (scope.Public 1); named = (named.Proc (record { 0 = 0 })) }) ∷
      (record { name = (codes "n"); scope = (scope.Local (record { 0 = 0 })); named = (named.Var (record { 0 = 0 })) }) ∷
      (record { name = (codes "s"); scope = (scope.Local (record { 0 = 0 })); named = (named.Var (record { 0 = 1 })) }) ∷
      (record { name = (codes "Main"); scope = (scope.Public 1); named = (named.Proc (record { 0 = 1 })) }) ∷ []);
  vars = (
      (record {
        name = (codes "n");
        place = (record { file = 1; line = 2 });
        statement = 1;
        owner = (owner.Static (record {
          0 = 0;
        }));
        ty = types.long;
        named = types.long;
        qualified = false;
        lettered = None;
        bounds = ([]);
        auto = false;
        preset
            = None;
      }) ∷
      (record {
        name = (codes "s");
        place = (record { file = 1; line = 2 });
        statement = 1;
        owner = (owner.Static (record {
          0 = 0;
        }));
        ty = types.str;
        named = types.str;
        qualified = false;
        lettered = None;
        bounds = ([]);
        auto = false;
        preset
            = None;
      }) ∷ []);
  consts = ([]);
  procs = (
      (record {
        name = (codes "Tick");
        place = (record { file = 1; line = 1 });
        module_number = 1;
        kind = kind.Sub;
        visibility
            = visible.Public;
        params = ([]);
        result = types.nothing;
        answer = None;
        first = (record { 0 = 0 });
      }) ∷
      (record {
        name = (codes "Main");
        place = (record { file = 1; line = 8 });
        module_number = 1;
        kind = kind.Sub;
        visibility
            = visible.Public;
        params = ([]);
        result = types.nothing;
        answer = None;
        first = (record { 0 = 1 });
      }) ∷ []);
  types = ([]);
  enums = ([]);
  defaults = ([]);
})

abbrev pub body_0 : List bound.Line
body_0 = (
    (record {
      source = (record {
        place = (record { file = 1; line = 3 });
        text = (codes "n = n + 1");
        form = (vb.assign (vb.word
            (codes "n") suffix.Absent) (vb.binary bin.Add (vb.word (codes "n") suffix.Absent) (vb.lit (literal.Int (pos 1) false))));
      });
      bindings = (record {
        exprs = ((bound.typed types.long (bound.variable (record { 0 = 0 }) false)) ∷ (bound.typed types.long
            (bound.binary bin.Add (bound.typed types.long (bound.variable (record { 0 = 0 }) false)) (bound.typed types.long (bound.convert
            types.long (bound.typed types.integer (bound.constant (value.Int (pos 1)) origin.Literal)))))) ∷ []);
        rules = (record
            { bits = 0 });
        mentions = ((mention.Var (record { 0 = 0 })) ∷ (mention.Var (record { 0 = 0 })) ∷ []);
      });
    }) ∷
    (record {
      source = (record {
        place = (record { file = 1; line = 4 });
        text = (codes "s = s & n");
        form = (vb.assign (vb.word
            (codes "s") suffix.Absent) (vb.binary bin.Concat (vb.word (codes "s") suffix.Absent) (vb.word (codes "n") suffix.Absent)));
      });
      bindings = (record {
        exprs = ((bound.typed types.str (bound.variable (record { 0 = 1 }) false)) ∷ (bound.typed types.str
            (bound.binary bin.Concat (bound.typed types.str (bound.variable (record { 0 = 1 }) false)) (bound.typed types.str (bound.convert
            types.str (bound.typed types.long (bound.variable (record { 0 = 0 }) false)))))) ∷ []);
        rules = (record { bits = 0 });
        mentions = ((mention.Var (record { 0 = 1 })) ∷ (mention.Var (record { 0 = 1 })) ∷ (mention.Var (record { 0 = 0 })) ∷ []);
      });
    }) ∷
    (record {
      source = (record {
        place = (record { file = 1; line = 5 });
        text = (codes "Debug.Print n; s");
        form = (vb.debug_print
            ((vb.word (codes "n") suffix.Absent) ∷ (vb.word (codes "s") suffix.Absent) ∷ []) false);
      });
      bindings = (record {
        exprs
            = ((bound.typed types.long (bound.variable (record { 0 = 0 }) false)) ∷ (bound.typed types.str (bound.variable (record
            { 0 = 1 }) false)) ∷ []);
        rules = (record { bits = 0 });
        mentions = ((mention.Var (record { 0 = 0 })) ∷ (mention.Var (record
            { 0 = 1 })) ∷ []);
      });
    }) ∷ [])

abbrev pub body_1 : List bound.Line
body_1 = (
    (record {
      source = (record {
        place = (record { file = 1; line = 9 });
        text = (codes "Tick");
        form = (vb.invoke (vb.word
            (codes "Tick") suffix.Absent) vb.no_args);
      });
      bindings = (record {
        exprs = ((bound.typed types.nothing (bound.call (record
            { 0 = 0 }) false bound.no_object bound.no_passed)) ∷ []);
        rules = (record { bits = 0 });
        mentions = ((mention.Proc (record
            { 0 = 0 })) ∷ []);
      });
    }) ∷
    (record {
      source = (record {
        place = (record { file = 1; line = 10 });
        text = (codes "Tick");
        form = (vb.invoke (vb.word
            (codes "Tick") suffix.Absent) vb.no_args);
      });
      bindings = (record {
        exprs = ((bound.typed types.nothing (bound.call (record
            { 0 = 0 }) false bound.no_object bound.no_passed)) ∷ []);
        rules = (record { bits = 0 });
        mentions = ((mention.Proc (record
            { 0 = 0 })) ∷ []);
      });
    }) ∷
    (record {
      source = (record {
        place = (record { file = 1; line = 11 });
        text = (codes "Tick");
        form = (vb.invoke (vb.word
            (codes "Tick") suffix.Absent) vb.no_args);
      });
      bindings = (record {
        exprs = ((bound.typed types.nothing (bound.call (record
            { 0 = 0 }) false bound.no_object bound.no_passed)) ∷ []);
        rules = (record { bits = 0 });
        mentions = ((mention.Proc (record
            { 0 = 0 })) ∷ []);
      });
    }) ∷ [])

abbrev pub bodies : List (List bound.Line)
bodies = body_0 ∷ body_1 ∷ []

abbrev pub program : bound.Program
program = record { declarations = declarations; bodies = bodies }

abbrev pub quiet : List (List Bool)
quiet = (([]) ∷ ([]) ∷ [])

abbrev pub lows : List (VarId × ℤ × ℤ)
lows = ([])

abbrev pub clean : List Bool
clean = (true ∷ true ∷ [])

abbrev pub written : net.Project
written = (record {
  library = false;
  main = (Some (codes "Main1"));
  note = None;
  modules = ((record {
    name = (codes "Main1");
    class = false;
    members = (
        (net.proc (record {
          head = (net.sub net_visible.Public (codes "Tick") ([]));
          prologue = (
              (net.static_local (record { name = (codes "n"); ty = net_types.integer; value = None })) ∷
              (net.static_local (record { name = (codes "s"); ty = net_types.str; value = None })) ∷ []);
          lines = (
              (net.assign (net.path ((codes "n") ∷ [])) (net.binary net_bin.Add (net.path ((codes "n") ∷ [])) (net.lit (net.integer
              (pos 1) false)))) ∷
              (net.assign (net.path ((codes "s") ∷ [])) (net.binary net_bin.Concat (net.path ((codes "s") ∷ [])) (net.cast cast.CStr
              (net.path ((codes "n") ∷ []))))) ∷
              (net.call (net.path ((codes "UpgradeSupport") ∷ (codes "PrintLine") ∷ [])) (net.next_exp (net.binary net_bin.Concat (net.call_of
              (net.path ((codes "UpgradeSupport") ∷ (codes "PrintNum") ∷ [])) (net.next_exp (net.cast cast.CDec (net.path ((codes "n")
              ∷ []))) net.no_exps)) (net.path ((codes "s") ∷ []))) net.no_exps)) ∷ []);
          close = close.EndSub;
        })) ∷
        (net.proc (record {
          head = (net.sub net_visible.Public (codes "Main") ([]));
          prologue = ([]);
          lines = (
              (net.call (net.path ((codes "Tick") ∷ [])) net.no_exps) ∷
              (net.call (net.path ((codes "Tick") ∷ [])) net.no_exps) ∷
              (net.call (net.path ((codes "Tick") ∷ [])) net.no_exps) ∷ []);
          close = close.EndSub;
        })) ∷ []);
  }) ∷ []);
  support = (record {
    name = (codes "UpgradeSupport");
    class = false;
    members = (
        (net.proc (record {
          head = (net.sub net_visible.Public (codes "PrintLine") ((record {
            passing = net_passing.Value;
            name
                = (codes "s");
            ty = net_types.str;
          }) ∷ []));
          prologue = ([]);
          lines = (
              (net.call (net.path ((codes "System") ∷ (codes "Console") ∷ (codes "WriteLine") ∷ [])) (net.next_exp (net.path ((codes
              "s") ∷ [])) net.no_exps)) ∷ []);
          close = close.EndSub;
        })) ∷
        (net.proc (record {
          head = (net.function net_visible.Public (codes "CurText") ((record {
            passing = net_passing.Value;
            name = (codes "d");
            ty = net_types.decimal;
          }) ∷ []) net_types.str);
          prologue = ([]);
          lines = (
              (net.assign (net.path ((codes "CurText") ∷ [])) (net.call_of (net.path ((codes "d") ∷ (codes "ToString") ∷ [])) (net.next_exp
              (net.lit (net.str (codes "0.####"))) (net.next_exp (net.path ((codes "System") ∷ (codes "Globalization") ∷ (codes "CultureInfo")
              ∷ (codes "InvariantCulture") ∷ [])) net.no_exps)))) ∷ []);
          close = close.EndFunction;
        })) ∷
        (net.proc (record {
          head = (net.function net_visible.Public (codes "PrintNum") ((record {
            passing = net_passing.Value;
            name = (codes "d");
            ty = net_types.decimal;
          }) ∷ []) net_types.str);
          prologue = ([]);
          lines = (
              (net.if_head (net.binary net_bin.Less (net.path ((codes "d") ∷ [])) (net.lit (net.decimal (pos 0))))) ∷
              (net.assign (net.path ((codes "PrintNum") ∷ [])) (net.binary net_bin.Concat (net.call_of (net.path ((codes "CurText")
              ∷ [])) (net.next_exp (net.path ((codes "d") ∷ [])) net.no_exps)) (net.lit (net.str (codes " "))))) ∷
              net.else_line ∷
              (net.assign (net.path ((codes "PrintNum") ∷ [])) (net.binary net_bin.Concat (net.binary net_bin.Concat (net.lit (net.str
              (codes " "))) (net.call_of (net.path ((codes "CurText") ∷ [])) (net.next_exp (net.path ((codes "d") ∷ [])) net.no_exps)))
              (net.lit (net.str (codes " "))))) ∷
              net.end_if ∷ []);
          close = close.EndFunction;
        })) ∷ []);
  });
})

abbrev pub runnable : Runnable
runnable = runnable_of program quiet lows

said : ran runnable 1 2000 ≡ (
  line (codes " 1 1")
      ++ line (codes " 2 12")
      ++ line (codes " 3 123"),
  ended,
)
unfolding digits
said = refl

said_written : ran_written written 1 2000 ≡ (
  line (codes " 1 1")
      ++ line (codes " 2 12")
      ++ line (codes " 3 123"),
  ended,
)
unfolding digits
said_written = refl
