-- The program handlers-resume-label-after-a-block-head, what it puts out and how it ends.
use Rattle.std.proofs.Common.{◌≡◌, refl, ◌++◌, List, ℤ, pos, Bool, true, false, [], ◌∷◌, codes, Some, None}
use Rattle.vb_tree.specs.declared.declared.VarId.{VarId}
use Rattle.bound_tree.specs.Tree as bound
use Rattle.net_tree.specs.Tree as net
use Rattle.net_tree.specs.Types as net_types
use Rattle.vb_tree.specs.BoundTree as types
use Rattle.vb_tree.specs.Tree as vb
use Rattle.vb_tree.specs.declared.expression.BinOp.TheVariants as bin
use Rattle.net_tree.specs.declared.expression.CastWord.TheVariants as cast
use Rattle.net_tree.specs.declared.declaration.NetClose.TheVariants as close
use Rattle.vb_tree.specs.declared.declared.ProcKind.TheVariants as kind
use Rattle.vb_tree.specs.declared.form_parts.Label6.TheVariants as label
use Rattle.vb_tree.specs.declared.form_parts.ExitKind.TheVariants as leaving
use Rattle.vb_tree.specs.declared.token.Literal6.TheVariants as literal
use Rattle.bound_tree.specs.declared.body.Mention.TheVariants as mention
use Rattle.bound_tree.specs.declared.declared.Named.TheVariants as named
use Rattle.net_tree.specs.declared.expression.NetBin.TheVariants as net_bin
use Rattle.net_tree.specs.declared.line.NetExit.TheVariants as net_exit
use Rattle.net_tree.specs.declared.line.NetLabel.TheVariants as net_label
use Rattle.net_tree.specs.declared.declaration.NetPassing.TheVariants as net_passing
use Rattle.net_tree.specs.declared.declaration.NetVisibility.TheVariants as net_visible
use Rattle.bound_tree.specs.declared.expression.Origin.TheVariants as origin
use Rattle.vb_tree.specs.declared.declared.Owner.TheVariants as owner
use Rattle.vb_tree.specs.declared.project.ProjectKind.TheVariants as project_kind
use Rattle.bound_tree.specs.declared.declared.Scope.TheVariants as scope
use Rattle.vb_tree.specs.declared.token.Suffix.TheVariants as suffix
use Rattle.vb_tree.specs.declared.value.Value6.TheVariants as value
use Rattle.vb_tree.specs.declared.form_parts.VarWord.TheVariants as var
use Rattle.vb_tree.specs.declared.form_parts.Visibility.TheVariants as visible
use Rattle.std.specs.Fmt.{digits}
use Rattle.example_runs.proofs.Said.{ended, line, ran, ran_written, runnable_of}
use Rattle.vb6_run.specs.Runnables.{Runnable}

abbrev pub project : vb.Project
project = (record {
  file = (record {
    kind = project_kind.Exe;
    startup = (Some (3, (codes "Sub Main")));
    entries = ((record
        { line = 2; class = false; name = (codes "Main1"); file = (codes "Main1.bas") }) ∷ []);
    dropped = ([]);
  });
  modules = ((record {
    file = 1;
    name = (codes "Main1");
    class = false;
    members = (
        (vb.proc (record {
          place = (record { file = 1; line = 1 });
          text = (codes "Sub Main()");
          form = (vb.sub_head (record {
            visibility = None;
            name = (codes "Main");
            suffix = suffix.Absent;
            params = ([]);
          }));
        }) (vb.next_node
        (vb.line (record {
          place = (record { file = 1; line = 2 });
          text = (codes "Dim i As Integer");
          form = (vb.variables
              var.Dim ((record {
                name = (codes "i");
                suffix = suffix.Absent;
                bounds = None;
                auto = false;
                ty = (Some (vb.named (codes
                    "Integer")));
              }) ∷ []));
        })) (vb.next_node
        (vb.line (record {
          place = (record { file = 1; line = 3 });
          text = (codes "On Error GoTo Fail");
          form = (vb.on_error_goto
              (label.Word (codes "Fail")));
        })) (vb.next_node
        (vb.line (record {
          place = (record { file = 1; line = 4 });
          text = (codes "i = 32766");
          form = (vb.assign (vb.word (codes
              "i") suffix.Absent) (vb.lit (literal.Int (pos 32766) false)));
        })) (vb.next_node
        (vb.line (record {
          place = (record { file = 1; line = 5 });
          text = (68 ∷ 101 ∷ 98 ∷ 117 ∷ 103 ∷ 46 ∷ 80 ∷ 114 ∷ 105
              ∷ 110 ∷ 116 ∷ 32 ∷ 34 ∷ 98 ∷ 101 ∷ 102 ∷ 111 ∷ 114 ∷ 101 ∷ 34 ∷ []);
          form = (vb.debug_print ((vb.lit (literal.Str (codes
              "before"))) ∷ []) false);
        })) (vb.next_node
        (vb.block (record {
          place = (record { file = 1; line = 6 });
          text = (codes "Do While i + 1 > 0");
          form = (vb.do_while
              (vb.binary bin.Greater (vb.binary bin.Add (vb.word (codes "i") suffix.Absent) (vb.lit (literal.Int (pos 1) false))) (vb.lit
              (literal.Int (pos 0) false))));
        }) (vb.next_node
        (vb.line (record {
          place = (record { file = 1; line = 7 });
          text = (codes "i = i + 1");
          form = (vb.assign (vb.word (codes
              "i") suffix.Absent) (vb.binary bin.Add (vb.word (codes "i") suffix.Absent) (vb.lit (literal.Int (pos 1) false))));
        }))
        vb.no_nodes) vb.no_middles (record { place = (record { file = 1; line = 8 }); text = (codes "Loop"); form = vb.loop }))
        (vb.next_node
        (vb.line (record {
          place = (record { file = 1; line = 9 });
          text = (codes "Exit Sub");
          form = (vb.exit leaving.Sub);
        })) (vb.next_node
        (vb.line (record {
          place = (record { file = 1; line = 10 });
          text = (codes "Fail");
          form = (vb.label (label.Word (codes
              "Fail")));
        })) (vb.next_node
        (vb.line (record {
          place = (record { file = 1; line = 11 });
          text = (codes "Debug.Print Err.Number");
          form = (vb.debug_print
              ((vb.member (vb.word (codes "Err") suffix.Absent) (codes "Number")) ∷ []) false);
        })) (vb.next_node
        (vb.line (record {
          place = (record { file = 1; line = 12 });
          text = (codes "Resume Done");
          form = (vb.resume_at (label.Word
              (codes "Done")));
        })) (vb.next_node
        (vb.line (record {
          place = (record { file = 1; line = 13 });
          text = (codes "Done");
          form = (vb.label (label.Word (codes
              "Done")));
        })) vb.no_nodes)))))))))) (record {
          place = (record { file = 1; line = 14 });
          text = (codes "End Sub");
          form
              = vb.end_sub;
        })) ∷ []);
    comments = ([]);
  }) ∷ []);
})

abbrev pub declarations : bound.Declarations
declarations = (record {
  project = project;
  names = (
      (record { name = (codes "Main"); scope = (scope.Public 1); named = (named.Proc (record { 0 = 0 })) }) ∷
      (record { name = (codes "i"); scope = (scope.Local (record { 0 = 0 })); named = (named.Var (record { 0 = 0 })) }) ∷ []);
  vars = (
      (record {
        name = (codes "i");
        place = (record { file = 1; line = 2 });
        statement = 1;
        owner = (owner.Local (record {
          0
              = 0;
        }));
        ty = types.integer;
        named = types.integer;
        qualified = false;
        lettered = None;
        bounds = ([]);
        auto = false;
        preset
            = None;
      }) ∷ []);
  consts = ([]);
  procs = (
      (record {
        name = (codes "Main");
        place = (record { file = 1; line = 1 });
        module_number = 1;
        kind = kind.Sub;
        visibility
            = visible.Public;
        params = ([]);
        result = types.nothing;
        answer = None;
        first = (record { 0 = 0 });
      }) ∷ []);
  types = ([]);
  enums = ([]);
  defaults = ([]);
})

abbrev pub body_0 : List bound.Line
body_0 = (
    (record {
      source = (record {
        place = (record { file = 1; line = 3 });
        text = (codes "On Error GoTo Fail");
        form = (vb.on_error_goto
            (label.Word (codes "Fail")));
      });
      bindings = (record { exprs = ([]); rules = (record { bits = 0 }); mentions = ([]) });
    }) ∷
    (record {
      source = (record {
        place = (record { file = 1; line = 4 });
        text = (codes "i = 32766");
        form = (vb.assign (vb.word
            (codes "i") suffix.Absent) (vb.lit (literal.Int (pos 32766) false)));
      });
      bindings = (record {
        exprs = ((bound.typed types.integer
            (bound.variable (record { 0 = 0 }) false)) ∷ (bound.typed types.integer (bound.constant (value.Int (pos 32766)) origin.Literal))
            ∷ []);
        rules = (record { bits = 0 });
        mentions = ((mention.Var (record { 0 = 0 })) ∷ []);
      });
    }) ∷
    (record {
      source = (record {
        place = (record { file = 1; line = 5 });
        text = (68 ∷ 101 ∷ 98 ∷ 117 ∷ 103 ∷ 46 ∷ 80 ∷ 114
            ∷ 105 ∷ 110 ∷ 116 ∷ 32 ∷ 34 ∷ 98 ∷ 101 ∷ 102 ∷ 111 ∷ 114 ∷ 101 ∷ 34 ∷ []);
        form = (vb.debug_print ((vb.lit (literal.Str
            (codes "before"))) ∷ []) false);
      });
      bindings = (record {
        exprs = ((bound.typed types.str (bound.constant (value.Str (codes
            "before")) origin.Literal)) ∷ []);
        rules = (record { bits = 0 });
        mentions = ([]);
      });
    }) ∷
    (record {
      source = (record {
        place = (record { file = 1; line = 6 });
        text = (codes "Do While i + 1 > 0");
        form = (vb.do_while
            (vb.binary bin.Greater (vb.binary bin.Add (vb.word (codes "i") suffix.Absent) (vb.lit (literal.Int (pos 1) false))) (vb.lit
            (literal.Int (pos 0) false))));
      });
      bindings = (record {
        exprs = ((bound.typed types.boolean (bound.binary bin.Greater
            (bound.typed types.integer (bound.binary bin.Add (bound.typed types.integer (bound.variable (record { 0 = 0 }) false))
            (bound.typed types.integer (bound.constant (value.Int (pos 1)) origin.Literal)))) (bound.typed types.integer (bound.constant
            (value.Int (pos 0)) origin.Literal)))) ∷ []);
        rules = (record { bits = 0 });
        mentions = ((mention.Var (record {
          0 = 0;
        })) ∷ []);
      });
    }) ∷
    (record {
      source = (record {
        place = (record { file = 1; line = 7 });
        text = (codes "i = i + 1");
        form = (vb.assign (vb.word
            (codes "i") suffix.Absent) (vb.binary bin.Add (vb.word (codes "i") suffix.Absent) (vb.lit (literal.Int (pos 1) false))));
      });
      bindings = (record {
        exprs = ((bound.typed types.integer (bound.variable (record { 0 = 0 }) false)) ∷ (bound.typed
            types.integer (bound.binary bin.Add (bound.typed types.integer (bound.variable (record { 0 = 0 }) false)) (bound.typed
            types.integer (bound.constant (value.Int (pos 1)) origin.Literal)))) ∷ []);
        rules = (record { bits = 0 });
        mentions =
            ((mention.Var (record { 0 = 0 })) ∷ (mention.Var (record { 0 = 0 })) ∷ []);
      });
    }) ∷
    (record {
      source = (record { place = (record { file = 1; line = 8 }); text = (codes "Loop"); form = vb.loop });
      bindings
          = (record { exprs = ([]); rules = (record { bits = 0 }); mentions = ([]) });
    }) ∷
    (record {
      source = (record {
        place = (record { file = 1; line = 9 });
        text = (codes "Exit Sub");
        form = (vb.exit leaving.Sub);
      });
      bindings = (record { exprs = ([]); rules = (record { bits = 0 }); mentions = ([]) });
    }) ∷
    (record {
      source = (record {
        place = (record { file = 1; line = 10 });
        text = (codes "Fail");
        form = (vb.label (label.Word
            (codes "Fail")));
      });
      bindings = (record { exprs = ([]); rules = (record { bits = 0 }); mentions = ([]) });
    }) ∷
    (record {
      source = (record {
        place = (record { file = 1; line = 11 });
        text = (codes "Debug.Print Err.Number");
        form =
            (vb.debug_print ((vb.member (vb.word (codes "Err") suffix.Absent) (codes "Number")) ∷ []) false);
      });
      bindings = (record
          { exprs = ((bound.typed types.long bound.err_number) ∷ []); rules = (record { bits = 0 }); mentions = ([]) });
    }) ∷
    (record {
      source = (record {
        place = (record { file = 1; line = 12 });
        text = (codes "Resume Done");
        form = (vb.resume_at
            (label.Word (codes "Done")));
      });
      bindings = (record { exprs = ([]); rules = (record { bits = 0 }); mentions = ([]) });
    }) ∷
    (record {
      source = (record {
        place = (record { file = 1; line = 13 });
        text = (codes "Done");
        form = (vb.label (label.Word
            (codes "Done")));
      });
      bindings = (record { exprs = ([]); rules = (record { bits = 0 }); mentions = ([]) });
    }) ∷ [])

abbrev pub bodies : List (List bound.Line)
bodies = body_0 ∷ []

abbrev pub program : bound.Program
program = record { declarations = declarations; bodies = bodies }

abbrev pub quiet : List (List Bool)
quiet = (([]) ∷ [])

abbrev pub lows : List (VarId × ℤ × ℤ)
lows = ([])

abbrev pub clean : List Bool
clean = (true ∷ [])

abbrev pub written : net.Project
written = (record {
  library = false;
  main = (Some (codes "Main1"));
  note = None;
  modules = ((record {
    name = (codes "Main1");
    class = false;
    members = (
        (net.proc (record {
          head = (net.sub net_visible.Public (codes "Main") ([]));
          prologue = (
              (net.local (record { name = (codes "i"); ty = net_types.short; value = None })) ∷ []);
          lines = (
              (net.on_error_goto (net_label.Word (codes "Fail"))) ∷
              (net.assign (net.path ((codes "i") ∷ [])) (net.lit (net.short (pos 32766) false))) ∷
              (net.call (net.path ((codes "UpgradeSupport") ∷ (codes "PrintLine") ∷ [])) (net.next_exp (net.lit (net.str (codes "before")))
              net.no_exps)) ∷
              (net.do_while (net.binary net_bin.Greater (net.binary net_bin.Add (net.path ((codes "i") ∷ [])) (net.lit (net.short (pos
              1) false))) (net.lit (net.short (pos 0) false)))) ∷
              (net.assign (net.path ((codes "i") ∷ [])) (net.binary net_bin.Add (net.path ((codes "i") ∷ [])) (net.lit (net.short (pos
              1) false)))) ∷
              net.loop ∷
              (net.exit net_exit.Sub) ∷
              (net.label (net_label.Word (codes "Fail"))) ∷
              (net.call (net.path ((codes "UpgradeSupport") ∷ (codes "PrintLine") ∷ [])) (net.next_exp (net.call_of (net.path ((codes
              "UpgradeSupport") ∷ (codes "PrintNum") ∷ [])) (net.next_exp (net.cast cast.CDec (net.call_of (net.path ((codes "UpgradeSupport")
              ∷ (codes "ErrNumber") ∷ [])) net.no_exps)) net.no_exps)) net.no_exps)) ∷
              (net.resume_at (net_label.Word (codes "Done"))) ∷
              (net.label (net_label.Word (codes "Done"))) ∷ []);
          close = close.EndSub;
        })) ∷ []);
  }) ∷ []);
  support = (record {
    name =
        (codes "UpgradeSupport");
    class = false;
    members = (
        (net.proc (record {
          head = (net.sub net_visible.Public (codes "PrintLine") ((record {
            passing = net_passing.Value;
            name
                = (codes "s");
            ty = net_types.str;
          }) ∷ []));
          prologue = ([]);
          lines = (
              (net.call (net.path ((codes "System") ∷ (codes "Console") ∷ (codes "WriteLine") ∷ [])) (net.next_exp (net.path ((codes
              "s") ∷ [])) net.no_exps)) ∷ []);
          close = close.EndSub;
        })) ∷
        (net.proc (record {
          head = (net.function net_visible.Public (codes "CurText") ((record {
            passing = net_passing.Value;
            name = (codes "d");
            ty = net_types.decimal;
          }) ∷ []) net_types.str);
          prologue = ([]);
          lines = (
              (net.assign (net.path ((codes "CurText") ∷ [])) (net.call_of (net.path ((codes "d") ∷ (codes "ToString") ∷ [])) (net.next_exp
              (net.lit (net.str (codes "0.####"))) (net.next_exp (net.path ((codes "System") ∷ (codes "Globalization") ∷ (codes "CultureInfo")
              ∷ (codes "InvariantCulture") ∷ [])) net.no_exps)))) ∷ []);
          close = close.EndFunction;
        })) ∷
        (net.proc (record {
          head = (net.function net_visible.Public (codes "PrintNum") ((record {
            passing = net_passing.Value;
            name = (codes "d");
            ty = net_types.decimal;
          }) ∷ []) net_types.str);
          prologue = ([]);
          lines = (
              (net.if_head (net.binary net_bin.Less (net.path ((codes "d") ∷ [])) (net.lit (net.decimal (pos 0))))) ∷
              (net.assign (net.path ((codes "PrintNum") ∷ [])) (net.binary net_bin.Concat (net.call_of (net.path ((codes "CurText")
              ∷ [])) (net.next_exp (net.path ((codes "d") ∷ [])) net.no_exps)) (net.lit (net.str (codes " "))))) ∷
              net.else_line ∷
              (net.assign (net.path ((codes "PrintNum") ∷ [])) (net.binary net_bin.Concat (net.binary net_bin.Concat (net.lit (net.str
              (codes " "))) (net.call_of (net.path ((codes "CurText") ∷ [])) (net.next_exp (net.path ((codes "d") ∷ [])) net.no_exps)))
              (net.lit (net.str (codes " "))))) ∷
              net.end_if ∷ []);
          close = close.EndFunction;
        })) ∷
        (net.proc (record {
          head = (net.function net_visible.Public (codes "ErrNumber") ([]) net_types.integer);
          prologue = ([]);
          lines = (
              (net.assign (net.path ((codes "ErrNumber") ∷ [])) (net.dot (net.call_of (net.path ((codes "Microsoft") ∷ (codes "VisualBasic")
              ∷ (codes "Information") ∷ (codes "Err") ∷ [])) net.no_exps) (codes "Number"))) ∷ []);
          close = close.EndFunction;
        })) ∷
        []);
  });
})

abbrev pub runnable : Runnable
runnable = runnable_of program quiet lows

said : ran runnable 0 2000 ≡ (
  line (codes "before")
      ++ line (codes " 6 "),
  ended,
)
unfolding digits
said = refl

said_written : ran_written written 0 2000 ≡ (
  line (codes "before")
      ++ line (codes " 6 "),
  ended,
)
unfolding digits
said_written = refl
