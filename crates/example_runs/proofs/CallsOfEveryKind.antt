-- The program calls-of-every-kind, what it puts out and how it ends.
use Rattle.std.proofs.Common.{◌≡◌, refl, ◌++◌, List, ℤ, pos, Bool, true, false, [], ◌∷◌, codes, Some, None}
use Rattle.vb_tree.specs.declared.declared.VarId.{VarId}
use Rattle.bound_tree.specs.Tree as bound
use Rattle.net_tree.specs.Tree as net
use Rattle.net_tree.specs.Types as net_types
use Rattle.vb_tree.specs.BoundTree as types
use Rattle.vb_tree.specs.Tree as vb
use Rattle.vb_tree.specs.declared.expression.BinOp.TheVariants as bin
use Rattle.net_tree.specs.declared.expression.CastWord.TheVariants as cast
use Rattle.net_tree.specs.declared.declaration.NetClose.TheVariants as close
use Rattle.vb_tree.specs.declared.declared.ProcKind.TheVariants as kind
use Rattle.vb_tree.specs.declared.token.Literal6.TheVariants as literal
use Rattle.bound_tree.specs.declared.body.Mention.TheVariants as mention
use Rattle.bound_tree.specs.declared.declared.Named.TheVariants as named
use Rattle.net_tree.specs.declared.expression.NetBin.TheVariants as net_bin
use Rattle.net_tree.specs.declared.declaration.NetPassing.TheVariants as net_passing
use Rattle.net_tree.specs.declared.expression.NetUn.TheVariants as net_un
use Rattle.net_tree.specs.declared.declaration.NetVisibility.TheVariants as net_visible
use Rattle.bound_tree.specs.declared.expression.Origin.TheVariants as origin
use Rattle.vb_tree.specs.declared.declared.Owner.TheVariants as owner
use Rattle.vb_tree.specs.declared.form_parts.Passing.TheVariants as passing
use Rattle.vb_tree.specs.declared.project.ProjectKind.TheVariants as project_kind
use Rattle.bound_tree.specs.declared.expression.Root.TheVariants as root
use Rattle.bound_tree.specs.declared.declared.Scope.TheVariants as scope
use Rattle.vb_tree.specs.declared.token.Suffix.TheVariants as suffix
use Rattle.vb_tree.specs.declared.expression.UnOp.TheVariants as un
use Rattle.vb_tree.specs.declared.value.Value6.TheVariants as value
use Rattle.vb_tree.specs.declared.form_parts.VarWord.TheVariants as var
use Rattle.vb_tree.specs.declared.form_parts.Visibility.TheVariants as visible
use Rattle.std.specs.Fmt.{digits}
use Rattle.example_runs.proofs.Said.{ended, line, ran, ran_written, runnable_of}
use Rattle.vb6_run.specs.Runnables.{Runnable}

abbrev pub project : vb.Project
project = (record {
  file = (record {
    kind = project_kind.Exe;
    startup = (Some (5, (codes "Sub Main")));
    entries = ((record
        { line = 2; class = false; name = (codes "Main1"); file = (codes "Main1.bas") }) ∷ (record {
          line = 3;
          class = true;
          name
              = (codes "Thermo");
          file = (codes "Thermo.cls");
        }) ∷ (record {
          line = 4;
          class = true;
          name = (codes "Node");
          file = (codes
              "Node.cls");
        }) ∷ []);
    dropped = ([]);
  });
  modules = ((record {
    file = 1;
    name = (codes "Main1");
    class = false;
    members
        = (
        (vb.alone (record {
          place = (record { file = 1; line = 1 });
          text = (codes "Private m As Long");
          form = (vb.variables
              var.Private ((record {
                name = (codes "m");
                suffix = suffix.Absent;
                bounds = None;
                auto = false;
                ty = (Some (vb.named (codes
                    "Long")));
              }) ∷ []));
        })) ∷
        (vb.proc (record {
          place = (record { file = 1; line = 3 });
          text = (codes "Sub Inc(n As Long)");
          form = (vb.sub_head (record {
            visibility = None;
            name = (codes "Inc");
            suffix = suffix.Absent;
            params = ((record {
              optional = false;
              passing = passing.Unsaid;
              param_array = false;
              name = (codes "n");
              suffix = suffix.Absent;
              array = false;
              ty = (Some (vb.named (codes "Long")));
              preset = None;
            }) ∷ []);
          }));
        }) (vb.next_node
        (vb.line (record {
          place = (record { file = 1; line = 4 });
          text = (codes "n = n + 1");
          form = (vb.assign (vb.word (codes
              "n") suffix.Absent) (vb.binary bin.Add (vb.word (codes "n") suffix.Absent) (vb.lit (literal.Int (pos 1) false))));
        }))
        vb.no_nodes) (record { place = (record { file = 1; line = 5 }); text = (codes "End Sub"); form = vb.end_sub })) ∷
        (vb.proc (record {
          place = (record { file = 1; line = 7 });
          text = (codes "Function Fib(ByVal n As Long) As Long");
          form
              = (vb.function_head (record {
                visibility = None;
                name = (codes "Fib");
                suffix = suffix.Absent;
                params = ((record {
                  optional
                      = false;
                  passing = passing.Value;
                  param_array = false;
                  name = (codes "n");
                  suffix = suffix.Absent;
                  array = false;
                  ty =
                      (Some (vb.named (codes "Long")));
                  preset = None;
                }) ∷ []);
              }) (Some (record {
                ty = (vb.named (codes "Long"));
                array = false;
              })));
        }) (vb.next_node
        (vb.block (record {
          place = (record { file = 1; line = 8 });
          text = (codes "If n < 2 Then");
          form = (vb.line_if (vb.binary
              bin.Less (vb.word (codes "n") suffix.Absent) (vb.lit (literal.Int (pos 2) false))));
        }) (vb.next_node
        (vb.line (record {
          place = (record { file = 1; line = 8 });
          text = (codes "Fib = n");
          form = (vb.assign (vb.word (codes
              "Fib") suffix.Absent) (vb.word (codes "n") suffix.Absent));
        })) vb.no_nodes) (vb.next_middle (record {
          place = (record
              { file = 1; line = 8 });
          text = (codes "Else");
          form = vb.else_line;
        }) (vb.next_node
        (vb.line (record {
          place = (record { file = 1; line = 8 });
          text = (codes "Fib = Fib(n - 1) + Fib(n - 2)");
          form = (vb.assign
              (vb.word (codes "Fib") suffix.Absent) (vb.binary bin.Add (vb.index (vb.word (codes "Fib") suffix.Absent) (vb.next_arg
              None false (vb.given (vb.binary bin.Sub (vb.word (codes "n") suffix.Absent) (vb.lit (literal.Int (pos 1) false)))) vb.no_args))
              (vb.index (vb.word (codes "Fib") suffix.Absent) (vb.next_arg None false (vb.given (vb.binary bin.Sub (vb.word (codes "n")
              suffix.Absent) (vb.lit (literal.Int (pos 2) false)))) vb.no_args))));
        })) vb.no_nodes) vb.no_middles) (record {
          place =
              (record { file = 1; line = 8 });
          text = (codes "End If");
          form = vb.end_if;
        })) vb.no_nodes) (record {
          place = (record
              { file = 1; line = 9 });
          text = (codes "End Function");
          form = vb.end_function;
        })) ∷
        (vb.proc (record {
          place = (record { file = 1; line = 11 });
          text = (codes "Property Get P() As Long");
          form = (vb.get_head
              (record { visibility = None; name = (codes "P"); suffix = suffix.Absent; params = ([]) }) (Some (record {
                ty = (vb.named
                    (codes "Long"));
                array = false;
              })));
        }) (vb.next_node
        (vb.line (record {
          place = (record { file = 1; line = 12 });
          text = (codes "m = m + 1");
          form = (vb.assign (vb.word
              (codes "m") suffix.Absent) (vb.binary bin.Add (vb.word (codes "m") suffix.Absent) (vb.lit (literal.Int (pos 1) false))));
        })) (vb.next_node
        (vb.block (record {
          place = (record { file = 1; line = 13 });
          text = (codes "If m < 3 Then");
          form = (vb.if_head (vb.binary
              bin.Less (vb.word (codes "m") suffix.Absent) (vb.lit (literal.Int (pos 3) false))));
        }) (vb.next_node
        (vb.line (record {
          place = (record { file = 1; line = 14 });
          text = (codes "P = P() + 10");
          form = (vb.assign (vb.word
              (codes "P") suffix.Absent) (vb.binary bin.Add (vb.index (vb.word (codes "P") suffix.Absent) vb.no_args) (vb.lit (literal.Int
              (pos 10) false))));
        })) vb.no_nodes) (vb.next_middle (record {
          place = (record { file = 1; line = 15 });
          text = (codes
              "Else");
          form = vb.else_line;
        }) (vb.next_node
        (vb.line (record {
          place = (record { file = 1; line = 16 });
          text = (codes "P = m");
          form = (vb.assign (vb.word (codes
              "P") suffix.Absent) (vb.word (codes "m") suffix.Absent));
        })) vb.no_nodes) vb.no_middles) (record {
          place = (record {
            file
                = 1;
            line = 17;
          });
          text = (codes "End If");
          form = vb.end_if;
        })) vb.no_nodes)) (record {
          place = (record {
            file = 1;
            line
                = 18;
          });
          text = (codes "End Property");
          form = vb.end_property;
        })) ∷
        (vb.proc (record {
          place = (record { file = 1; line = 20 });
          text = (codes "Sub Main()");
          form = (vb.sub_head (record
              { visibility = None; name = (codes "Main"); suffix = suffix.Absent; params = ([]) }));
        }) (vb.next_node
        (vb.line (record {
          place = (record { file = 1; line = 21 });
          text = (codes "Dim a As Long, t As Thermo, x As Node");
          form = (vb.variables var.Dim ((record {
            name = (codes "a");
            suffix = suffix.Absent;
            bounds = None;
            auto = false;
            ty =
                (Some (vb.named (codes "Long")));
          }) ∷ (record {
            name = (codes "t");
            suffix = suffix.Absent;
            bounds = None;
            auto = false;
            ty = (Some (vb.named (codes "Thermo")));
          }) ∷ (record {
            name = (codes "x");
            suffix = suffix.Absent;
            bounds = None;
            auto
                = false;
            ty = (Some (vb.named (codes "Node")));
          }) ∷ []));
        })) (vb.next_node
        (vb.line (record {
          place = (record { file = 1; line = 22 });
          text = (codes "Inc a");
          form = (vb.invoke (vb.word (codes
              "Inc") suffix.Absent) (vb.next_arg None false (vb.given (vb.word (codes "a") suffix.Absent)) vb.no_args));
        })) (vb.next_node
        (vb.line (record {
          place = (record { file = 1; line = 23 });
          text = (codes "Inc (a)");
          form = (vb.invoke (vb.word (codes
              "Inc") suffix.Absent) (vb.next_arg None false (vb.given (vb.paren (vb.word (codes "a") suffix.Absent))) vb.no_args));
        }))
        (vb.next_node
        (vb.line (record {
          place = (record { file = 1; line = 24 });
          text = (codes "Call Inc(a)");
          form = (vb.call (vb.index
              (vb.word (codes "Inc") suffix.Absent) (vb.next_arg None false (vb.given (vb.word (codes "a") suffix.Absent)) vb.no_args)));
        })) (vb.next_node
        (vb.line (record {
          place = (record { file = 1; line = 25 });
          text = (codes "Call Inc((a))");
          form = (vb.call (vb.index
              (vb.word (codes "Inc") suffix.Absent) (vb.next_arg None false (vb.given (vb.paren (vb.word (codes "a") suffix.Absent)))
              vb.no_args)));
        })) (vb.next_node
        (vb.line (record {
          place = (record { file = 1; line = 26 });
          text = (codes "Inc a + 0");
          form = (vb.invoke (vb.word
              (codes "Inc") suffix.Absent) (vb.next_arg None false (vb.given (vb.binary bin.Add (vb.word (codes "a") suffix.Absent)
              (vb.lit (literal.Int (pos 0) false)))) vb.no_args));
        })) (vb.next_node
        (vb.line (record {
          place = (record { file = 1; line = 27 });
          text = (codes "Debug.Print a; Fib(6); P");
          form = (vb.debug_print
              ((vb.word (codes "a") suffix.Absent) ∷ (vb.index (vb.word (codes "Fib") suffix.Absent) (vb.next_arg None false (vb.given
              (vb.lit (literal.Int (pos 6) false))) vb.no_args)) ∷ (vb.word (codes "P") suffix.Absent) ∷ []) false);
        })) (vb.next_node
        (vb.line (record {
          place = (record { file = 1; line = 28 });
          text = (codes "Set t = New Thermo");
          form = (vb.set (vb.word
              (codes "t") suffix.Absent) (vb.new_object (codes "Thermo")));
        })) (vb.next_node
        (vb.line (record {
          place = (record { file = 1; line = 29 });
          text = (codes "t.Celsius = -300");
          form = (vb.assign (vb.member
              (vb.word (codes "t") suffix.Absent) (codes "Celsius")) (vb.unary un.Neg (vb.lit (literal.Int (pos 300) false))));
        })) (vb.next_node
        (vb.line (record {
          place = (record { file = 1; line = 30 });
          text = (codes "t.Celsius = t.Celsius + 1");
          form = (vb.assign
              (vb.member (vb.word (codes "t") suffix.Absent) (codes "Celsius")) (vb.binary bin.Add (vb.member (vb.word (codes "t") suffix.Absent)
              (codes "Celsius")) (vb.lit (literal.Int (pos 1) false))));
        })) (vb.next_node
        (vb.line (record {
          place = (record { file = 1; line = 31 });
          text = (codes "Debug.Print t.Celsius");
          form = (vb.debug_print
              ((vb.member (vb.word (codes "t") suffix.Absent) (codes "Celsius")) ∷ []) false);
        })) (vb.next_node
        (vb.line (record {
          place = (record { file = 1; line = 32 });
          text = (codes "Set x = t.Child");
          form = (vb.set (vb.word
              (codes "x") suffix.Absent) (vb.member (vb.word (codes "t") suffix.Absent) (codes "Child")));
        })) (vb.next_node
        (vb.block (record {
          place = (record { file = 1; line = 33 });
          text = (codes "Do Until x Is Nothing");
          form = (vb.do_until
              (vb.binary bin.Is (vb.word (codes "x") suffix.Absent) (vb.word (codes "Nothing") suffix.Absent)));
        }) (vb.next_node
        (vb.line (record {
          place = (record { file = 1; line = 34 });
          text = (codes "Debug.Print x.k");
          form = (vb.debug_print
              ((vb.member (vb.word (codes "x") suffix.Absent) (codes "k")) ∷ []) false);
        })) (vb.next_node
        (vb.line (record {
          place = (record { file = 1; line = 35 });
          text = (codes "Set x = x.Next1");
          form = (vb.set (vb.word
              (codes "x") suffix.Absent) (vb.member (vb.word (codes "x") suffix.Absent) (codes "Next1")));
        })) vb.no_nodes)) vb.no_middles
        (record { place = (record { file = 1; line = 36 }); text = (codes "Loop"); form = vb.loop })) (vb.next_node
        (vb.block (record {
          place = (record { file = 1; line = 37 });
          text = (codes "With New Node");
          form = (vb.with_head (vb.new_object
              (codes "Node")));
        }) (vb.next_node
        (vb.line (record {
          place = (record { file = 1; line = 38 });
          text = (codes ".k = 4");
          form = (vb.assign (vb.with_member
              (codes "k")) (vb.lit (literal.Int (pos 4) false)));
        })) (vb.next_node
        (vb.line (record {
          place = (record { file = 1; line = 39 });
          text = (codes "Debug.Print .k");
          form = (vb.debug_print
              ((vb.with_member (codes "k")) ∷ []) false);
        })) vb.no_nodes)) vb.no_middles (record {
          place = (record {
            file = 1;
            line
                = 40;
          });
          text = (codes "End With");
          form = vb.end_with;
        })) vb.no_nodes)))))))))))))) (record {
          place = (record {
            file
                = 1;
            line = 41;
          });
          text = (codes "End Sub");
          form = vb.end_sub;
        })) ∷ []);
    comments = ([]);
  }) ∷ (record {
    file = 2;
    name
        = (codes "Thermo");
    class = true;
    members = (
        (vb.alone (record {
          place = (record { file = 2; line = 4 });
          text = (codes "Private c As Long");
          form = (vb.variables
              var.Private ((record {
                name = (codes "c");
                suffix = suffix.Absent;
                bounds = None;
                auto = false;
                ty = (Some (vb.named (codes
                    "Long")));
              }) ∷ []));
        })) ∷
        (vb.alone (record {
          place = (record { file = 2; line = 5 });
          text = (codes "Public Child As Node");
          form = (vb.variables
              var.Public ((record {
                name = (codes "Child");
                suffix = suffix.Absent;
                bounds = None;
                auto = false;
                ty = (Some (vb.named
                    (codes "Node")));
              }) ∷ []));
        })) ∷
        (vb.proc (record {
          place = (record { file = 2; line = 7 });
          text = (codes "Private Sub Class_Initialize()");
          form = (vb.sub_head
              (record {
                visibility = (Some visible.Private);
                name = (codes "Class_Initialize");
                suffix = suffix.Absent;
                params = ([]);
              }));
        }) (vb.next_node
        (vb.line (record {
          place = (record { file = 2; line = 8 });
          text = (codes "Set Child = New Node");
          form = (vb.set (vb.word
              (codes "Child") suffix.Absent) (vb.new_object (codes "Node")));
        })) (vb.next_node
        (vb.line (record {
          place = (record { file = 2; line = 9 });
          text = (codes "Child.k = 1");
          form = (vb.assign (vb.member
              (vb.word (codes "Child") suffix.Absent) (codes "k")) (vb.lit (literal.Int (pos 1) false)));
        })) (vb.next_node
        (vb.line (record {
          place = (record { file = 2; line = 10 });
          text = (codes "Set Child.Next1 = New Node");
          form = (vb.set
              (vb.member (vb.word (codes "Child") suffix.Absent) (codes "Next1")) (vb.new_object (codes "Node")));
        })) vb.no_nodes)))
        (record { place = (record { file = 2; line = 11 }); text = (codes "End Sub"); form = vb.end_sub })) ∷
        (vb.proc (record {
          place = (record { file = 2; line = 13 });
          text = (codes "Public Property Get Celsius() As Long");
          form
              = (vb.get_head (record {
                visibility = (Some visible.Public);
                name = (codes "Celsius");
                suffix = suffix.Absent;
                params
                    = ([]);
              }) (Some (record { ty = (vb.named (codes "Long")); array = false })));
        }) (vb.next_node
        (vb.line (record {
          place = (record { file = 2; line = 14 });
          text = (codes "Celsius = c");
          form = (vb.assign (vb.word
              (codes "Celsius") suffix.Absent) (vb.word (codes "c") suffix.Absent));
        })) vb.no_nodes) (record {
          place = (record {
            file
                = 2;
            line = 15;
          });
          text = (codes "End Property");
          form = vb.end_property;
        })) ∷
        (vb.proc (record {
          place = (record { file = 2; line = 17 });
          text = (codes "Public Property Let Celsius(ByVal v As Long)");
          form = (vb.let_head (record {
            visibility = (Some visible.Public);
            name = (codes "Celsius");
            suffix = suffix.Absent;
            params
                = ((record {
                  optional = false;
                  passing = passing.Value;
                  param_array = false;
                  name = (codes "v");
                  suffix = suffix.Absent;
                  array = false;
                  ty = (Some (vb.named (codes "Long")));
                  preset = None;
                }) ∷ []);
          }));
        }) (vb.next_node
        (vb.block (record {
          place = (record { file = 2; line = 18 });
          text = (codes "If v < -273 Then");
          form = (vb.line_if
              (vb.binary bin.Less (vb.word (codes "v") suffix.Absent) (vb.unary un.Neg (vb.lit (literal.Int (pos 273) false)))));
        })
        (vb.next_node
        (vb.line (record {
          place = (record { file = 2; line = 18 });
          text = (codes "v = -273");
          form = (vb.assign (vb.word (codes
              "v") suffix.Absent) (vb.unary un.Neg (vb.lit (literal.Int (pos 273) false))));
        })) vb.no_nodes) vb.no_middles (record {
          place = (record { file = 2; line = 18 });
          text = (codes "End If");
          form = vb.end_if;
        })) (vb.next_node
        (vb.line (record {
          place = (record { file = 2; line = 19 });
          text = (codes "c = v");
          form = (vb.assign (vb.word (codes
              "c") suffix.Absent) (vb.word (codes "v") suffix.Absent));
        })) vb.no_nodes)) (record {
          place = (record {
            file = 2;
            line
                = 20;
          });
          text = (codes "End Property");
          form = vb.end_property;
        })) ∷ []);
    comments = ([]);
  }) ∷ (record {
    file = 3;
    name
        = (codes "Node");
    class = true;
    members = (
        (vb.alone (record {
          place = (record { file = 3; line = 4 });
          text = (codes "Public k As Long");
          form = (vb.variables var.Public
              ((record {
                name = (codes "k");
                suffix = suffix.Absent;
                bounds = None;
                auto = false;
                ty = (Some (vb.named (codes "Long")));
              }) ∷ []));
        })) ∷
        (vb.alone (record {
          place = (record { file = 3; line = 5 });
          text = (codes "Public Next1 As Node");
          form = (vb.variables
              var.Public ((record {
                name = (codes "Next1");
                suffix = suffix.Absent;
                bounds = None;
                auto = false;
                ty = (Some (vb.named
                    (codes "Node")));
              }) ∷ []));
        })) ∷ []);
    comments = ([]);
  }) ∷ []);
})

abbrev pub declarations : bound.Declarations
declarations = (record {
  project = project;
  names = (
      (record { name = (codes "m"); scope = (scope.Private 1); named = (named.Var (record { 0 = 0 })) }) ∷
      (record { name = (codes "Inc"); scope = (scope.Public 1); named = (named.Proc (record { 0 = 0 })) }) ∷
      (record { name = (codes "n"); scope = (scope.Local (record { 0 = 0 })); named = (named.Var (record { 0 = 1 })) }) ∷
      (record { name = (codes "Fib"); scope = (scope.Public 1); named = (named.Proc (record { 0 = 1 })) }) ∷
      (record { name = (codes "n"); scope = (scope.Local (record { 0 = 1 })); named = (named.Var (record { 0 = 2 })) }) ∷
      (record { name = (codes "Fib"); scope = (scope.Local (record { 0 = 1 })); named = (named.Var (record { 0 = 3 })) }) ∷
      (record { name = (codes "P"); scope = (scope.Public 1); named = (named.Proc (record { 0 = 2 })) }) ∷
      (record { name = (codes "P"); scope = (scope.Local (record { 0 = 2 })); named = (named.Var (record { 0 = 4 })) }) ∷
      (record { name = (codes "Main"); scope = (scope.Public 1); named = (named.Proc (record { 0 = 3 })) }) ∷
      (record { name = (codes "a"); scope = (scope.Local (record { 0 = 3 })); named = (named.Var (record { 0 = 5 })) }) ∷
      (record { name = (codes "t"); scope = (scope.Local (record { 0 = 3 })); named = (named.Var (record { 0 = 6 })) }) ∷
      (record { name = (codes "x"); scope = (scope.Local (record { 0 = 3 })); named = (named.Var (record { 0 = 7 })) }) ∷
      (record { name = (codes "c"); scope = (scope.Private 2); named = (named.Var (record { 0 = 8 })) }) ∷
      (record { name = (codes "Child"); scope = (scope.Public 2); named = (named.Var (record { 0 = 9 })) }) ∷
      (record { name = (codes "Class_Initialize"); scope = (scope.Private 2); named = (named.Proc (record { 0 = 4 })) }) ∷
      (record { name = (codes "Celsius"); scope = (scope.Public 2); named = (named.Proc (record { 0 = 5 })) }) ∷
      (record {
        name = (codes "Celsius");
        scope = (scope.Local (record { 0 = 5 }));
        named = (named.Var (record { 0 = 10 }));
      }) ∷
      (record { name = (codes "Celsius"); scope = (scope.Public 2); named = (named.Proc (record { 0 = 6 })) }) ∷
      (record { name = (codes "v"); scope = (scope.Local (record { 0 = 6 })); named = (named.Var (record { 0 = 11 })) }) ∷
      (record { name = (codes "k"); scope = (scope.Public 3); named = (named.Var (record { 0 = 12 })) }) ∷
      (record { name = (codes "Next1"); scope = (scope.Public 3); named = (named.Var (record { 0 = 13 })) }) ∷ []);
  vars = (
      (record {
        name = (codes "m");
        place = (record { file = 1; line = 1 });
        statement = 0;
        owner = (owner.Module 1);
        ty = types.long;
        named = types.long;
        qualified = false;
        lettered = None;
        bounds = ([]);
        auto = false;
        preset = None;
      }) ∷
      (record {
        name = (codes "n");
        place = (record { file = 1; line = 3 });
        statement = 1;
        owner = (owner.Reference (record
            { 0 = 0 }));
        ty = types.long;
        named = types.long;
        qualified = false;
        lettered = None;
        bounds = ([]);
        auto = false;
        preset
            = None;
      }) ∷
      (record {
        name = (codes "n");
        place = (record { file = 1; line = 7 });
        statement = 4;
        owner = (owner.Value (record {
          0
              = 1;
        }));
        ty = types.long;
        named = types.long;
        qualified = false;
        lettered = None;
        bounds = ([]);
        auto = false;
        preset
            = None;
      }) ∷
      (record {
        name = (codes "Fib");
        place = (record { file = 1; line = 7 });
        statement = 4;
        owner = (owner.Answer (record
            { 0 = 1 }));
        ty = types.long;
        named = types.long;
        qualified = false;
        lettered = None;
        bounds = ([]);
        auto = false;
        preset
            = None;
      }) ∷
      (record {
        name = (codes "P");
        place = (record { file = 1; line = 11 });
        statement = 11;
        owner = (owner.Answer (record
            { 0 = 2 }));
        ty = types.long;
        named = types.long;
        qualified = false;
        lettered = None;
        bounds = ([]);
        auto = false;
        preset
            = None;
      }) ∷
      (record {
        name = (codes "a");
        place = (record { file = 1; line = 21 });
        statement = 20;
        owner = (owner.Local (record {
          0 = 3;
        }));
        ty = types.long;
        named = types.long;
        qualified = false;
        lettered = None;
        bounds = ([]);
        auto = false;
        preset
            = None;
      }) ∷
      (record {
        name = (codes "t");
        place = (record { file = 1; line = 21 });
        statement = 20;
        owner = (owner.Local (record {
          0 = 3;
        }));
        ty = (types.class 0);
        named = (types.class 0);
        qualified = false;
        lettered = None;
        bounds = ([]);
        auto = false;
        preset = None;
      }) ∷
      (record {
        name = (codes "x");
        place = (record { file = 1; line = 21 });
        statement = 20;
        owner = (owner.Local (record {
          0 = 3;
        }));
        ty = (types.class 1);
        named = (types.class 1);
        qualified = false;
        lettered = None;
        bounds = ([]);
        auto = false;
        preset = None;
      }) ∷
      (record {
        name = (codes "c");
        place = (record { file = 2; line = 4 });
        statement = 0;
        owner = (owner.Module 2);
        ty = types.long;
        named = types.long;
        qualified = false;
        lettered = None;
        bounds = ([]);
        auto = false;
        preset = None;
      }) ∷
      (record {
        name = (codes "Child");
        place = (record { file = 2; line = 5 });
        statement = 1;
        owner = (owner.Module 2);
        ty
            = (types.class 1);
        named = (types.class 1);
        qualified = false;
        lettered = None;
        bounds = ([]);
        auto = false;
        preset =
            None;
      }) ∷
      (record {
        name = (codes "Celsius");
        place = (record { file = 2; line = 13 });
        statement = 7;
        owner = (owner.Answer (record
            { 0 = 5 }));
        ty = types.long;
        named = types.long;
        qualified = false;
        lettered = None;
        bounds = ([]);
        auto = false;
        preset
            = None;
      }) ∷
      (record {
        name = (codes "v");
        place = (record { file = 2; line = 17 });
        statement = 10;
        owner = (owner.Value (record {
          0 = 6;
        }));
        ty = types.long;
        named = types.long;
        qualified = false;
        lettered = None;
        bounds = ([]);
        auto = false;
        preset
            = None;
      }) ∷
      (record {
        name = (codes "k");
        place = (record { file = 3; line = 4 });
        statement = 0;
        owner = (owner.Module 3);
        ty = types.long;
        named = types.long;
        qualified = false;
        lettered = None;
        bounds = ([]);
        auto = false;
        preset = None;
      }) ∷
      (record {
        name = (codes "Next1");
        place = (record { file = 3; line = 5 });
        statement = 1;
        owner = (owner.Module 3);
        ty
            = (types.class 1);
        named = (types.class 1);
        qualified = false;
        lettered = None;
        bounds = ([]);
        auto = false;
        preset =
            None;
      }) ∷ []);
  consts = ([]);
  procs = (
      (record {
        name = (codes "Inc");
        place = (record { file = 1; line = 3 });
        module_number = 1;
        kind = kind.Sub;
        visibility
            = visible.Public;
        params = ((record { 0 = 1 }) ∷ []);
        result = types.nothing;
        answer = None;
        first = (record { 0 = 0 });
      }) ∷
      (record {
        name = (codes "Fib");
        place = (record { file = 1; line = 7 });
        module_number = 1;
        kind = kind.Function;
        visibility
            = visible.Public;
        params = ((record { 0 = 2 }) ∷ []);
        result = types.long;
        answer = (Some (record { 0 = 3 }));
        first =
            (record { 0 = 1 });
      }) ∷
      (record {
        name = (codes "P");
        place = (record { file = 1; line = 11 });
        module_number = 1;
        kind = kind.Get;
        visibility
            = visible.Public;
        params = ([]);
        result = types.long;
        answer = (Some (record { 0 = 4 }));
        first = (record { 0 = 2 });
      })
      ∷
      (record {
        name = (codes "Main");
        place = (record { file = 1; line = 20 });
        module_number = 1;
        kind = kind.Sub;
        visibility
            = visible.Public;
        params = ([]);
        result = types.nothing;
        answer = None;
        first = (record { 0 = 3 });
      }) ∷
      (record {
        name = (codes "Class_Initialize");
        place = (record { file = 2; line = 7 });
        module_number = 2;
        kind = kind.Sub;
        visibility = visible.Private;
        params = ([]);
        result = types.nothing;
        answer = None;
        first = (record { 0 = 4 });
      }) ∷
      (record {
        name = (codes "Celsius");
        place = (record { file = 2; line = 13 });
        module_number = 2;
        kind = kind.Get;
        visibility
            = visible.Public;
        params = ([]);
        result = types.long;
        answer = (Some (record { 0 = 10 }));
        first = (record { 0 = 5 });
      }) ∷
      (record {
        name = (codes "Celsius");
        place = (record { file = 2; line = 17 });
        module_number = 2;
        kind = kind.Let;
        visibility
            = visible.Public;
        params = ((record { 0 = 11 }) ∷ []);
        result = types.nothing;
        answer = None;
        first = (record {
          0 = 5;
        });
      }) ∷ []);
  types = ([]);
  enums = ([]);
  defaults = (None ∷ None ∷ []);
})

abbrev pub body_0 : List bound.Line
body_0 = (
    (record {
      source = (record {
        place = (record { file = 1; line = 4 });
        text = (codes "n = n + 1");
        form = (vb.assign (vb.word
            (codes "n") suffix.Absent) (vb.binary bin.Add (vb.word (codes "n") suffix.Absent) (vb.lit (literal.Int (pos 1) false))));
      });
      bindings = (record {
        exprs = ((bound.typed types.long (bound.variable (record { 0 = 1 }) false)) ∷ (bound.typed types.long
            (bound.binary bin.Add (bound.typed types.long (bound.variable (record { 0 = 1 }) false)) (bound.typed types.long (bound.convert
            types.long (bound.typed types.integer (bound.constant (value.Int (pos 1)) origin.Literal)))))) ∷ []);
        rules = (record
            { bits = 0 });
        mentions = ((mention.Var (record { 0 = 1 })) ∷ (mention.Var (record { 0 = 1 })) ∷ []);
      });
    }) ∷ [])

abbrev pub body_1 : List bound.Line
body_1 = (
    (record {
      source = (record {
        place = (record { file = 1; line = 8 });
        text = (codes "If n < 2 Then");
        form = (vb.line_if
            (vb.binary bin.Less (vb.word (codes "n") suffix.Absent) (vb.lit (literal.Int (pos 2) false))));
      });
      bindings = (record {
        exprs = ((bound.typed types.boolean (bound.binary bin.Less (bound.typed types.long (bound.variable (record { 0 = 2 })
            false)) (bound.typed types.long (bound.convert types.long (bound.typed types.integer (bound.constant (value.Int (pos 2))
            origin.Literal)))))) ∷ []);
        rules = (record { bits = 0 });
        mentions = ((mention.Var (record { 0 = 2 })) ∷ []);
      });
    }) ∷
    (record {
      source = (record {
        place = (record { file = 1; line = 8 });
        text = (codes "Fib = n");
        form = (vb.assign (vb.word
            (codes "Fib") suffix.Absent) (vb.word (codes "n") suffix.Absent));
      });
      bindings = (record {
        exprs = ((bound.typed types.long
            (bound.variable (record { 0 = 3 }) false)) ∷ (bound.typed types.long (bound.variable (record { 0 = 2 }) false)) ∷ []);
        rules = (record { bits = 0 });
        mentions = ((mention.Var (record { 0 = 3 })) ∷ (mention.Var (record { 0 = 2 })) ∷ []);
      });
    }) ∷
    (record {
      source = (record { place = (record { file = 1; line = 8 }); text = (codes "Else"); form = vb.else_line });
      bindings
          = (record { exprs = ([]); rules = (record { bits = 0 }); mentions = ([]) });
    }) ∷
    (record {
      source = (record {
        place = (record { file = 1; line = 8 });
        text = (codes "Fib = Fib(n - 1) + Fib(n - 2)");
        form = (vb.assign (vb.word (codes "Fib") suffix.Absent) (vb.binary bin.Add (vb.index (vb.word (codes "Fib") suffix.Absent)
            (vb.next_arg None false (vb.given (vb.binary bin.Sub (vb.word (codes "n") suffix.Absent) (vb.lit (literal.Int (pos 1)
            false)))) vb.no_args)) (vb.index (vb.word (codes "Fib") suffix.Absent) (vb.next_arg None false (vb.given (vb.binary bin.Sub
            (vb.word (codes "n") suffix.Absent) (vb.lit (literal.Int (pos 2) false)))) vb.no_args))));
      });
      bindings = (record {
        exprs
            = ((bound.typed types.long (bound.variable (record { 0 = 3 }) false)) ∷ (bound.typed types.long (bound.binary bin.Add
            (bound.typed types.long (bound.call (record { 0 = 1 }) false bound.no_object (bound.next_passed (bound.by_value (bound.typed
            types.long (bound.binary bin.Sub (bound.typed types.long (bound.variable (record { 0 = 2 }) false)) (bound.typed types.long
            (bound.convert types.long (bound.typed types.integer (bound.constant (value.Int (pos 1)) origin.Literal))))))) bound.no_passed)))
            (bound.typed types.long (bound.call (record { 0 = 1 }) false bound.no_object (bound.next_passed (bound.by_value (bound.typed
            types.long (bound.binary bin.Sub (bound.typed types.long (bound.variable (record { 0 = 2 }) false)) (bound.typed types.long
            (bound.convert types.long (bound.typed types.integer (bound.constant (value.Int (pos 2)) origin.Literal))))))) bound.no_passed)))))
            ∷ []);
        rules = (record { bits = 0 });
        mentions = ((mention.Var (record { 0 = 3 })) ∷ (mention.Proc (record { 0 = 1 }))
            ∷ (mention.Var (record { 0 = 2 })) ∷ (mention.Proc (record { 0 = 1 })) ∷ (mention.Var (record { 0 = 2 })) ∷ []);
      });
    })
    ∷
    (record {
      source = (record { place = (record { file = 1; line = 8 }); text = (codes "End If"); form = vb.end_if });
      bindings
          = (record { exprs = ([]); rules = (record { bits = 0 }); mentions = ([]) });
    }) ∷ [])

abbrev pub body_2 : List bound.Line
body_2 = (
    (record {
      source = (record {
        place = (record { file = 1; line = 12 });
        text = (codes "m = m + 1");
        form = (vb.assign (vb.word
            (codes "m") suffix.Absent) (vb.binary bin.Add (vb.word (codes "m") suffix.Absent) (vb.lit (literal.Int (pos 1) false))));
      });
      bindings = (record {
        exprs = ((bound.typed types.long (bound.variable (record { 0 = 0 }) false)) ∷ (bound.typed types.long
            (bound.binary bin.Add (bound.typed types.long (bound.variable (record { 0 = 0 }) false)) (bound.typed types.long (bound.convert
            types.long (bound.typed types.integer (bound.constant (value.Int (pos 1)) origin.Literal)))))) ∷ []);
        rules = (record
            { bits = 0 });
        mentions = ((mention.Var (record { 0 = 0 })) ∷ (mention.Var (record { 0 = 0 })) ∷ []);
      });
    }) ∷
    (record {
      source = (record {
        place = (record { file = 1; line = 13 });
        text = (codes "If m < 3 Then");
        form = (vb.if_head
            (vb.binary bin.Less (vb.word (codes "m") suffix.Absent) (vb.lit (literal.Int (pos 3) false))));
      });
      bindings = (record {
        exprs = ((bound.typed types.boolean (bound.binary bin.Less (bound.typed types.long (bound.variable (record { 0 = 0 })
            false)) (bound.typed types.long (bound.convert types.long (bound.typed types.integer (bound.constant (value.Int (pos 3))
            origin.Literal)))))) ∷ []);
        rules = (record { bits = 0 });
        mentions = ((mention.Var (record { 0 = 0 })) ∷ []);
      });
    }) ∷
    (record {
      source = (record {
        place = (record { file = 1; line = 14 });
        text = (codes "P = P() + 10");
        form = (vb.assign
            (vb.word (codes "P") suffix.Absent) (vb.binary bin.Add (vb.index (vb.word (codes "P") suffix.Absent) vb.no_args) (vb.lit
            (literal.Int (pos 10) false))));
      });
      bindings = (record {
        exprs = ((bound.typed types.long (bound.variable (record {
          0
              = 4;
        }) false)) ∷ (bound.typed types.long (bound.binary bin.Add (bound.typed types.long (bound.call (record { 0 = 2 })
            false bound.no_object bound.no_passed)) (bound.typed types.long (bound.convert types.long (bound.typed types.integer (bound.constant
            (value.Int (pos 10)) origin.Literal)))))) ∷ []);
        rules = (record { bits = 0 });
        mentions = ((mention.Var (record {
          0 =
              4;
        })) ∷ (mention.Proc (record { 0 = 2 })) ∷ []);
      });
    }) ∷
    (record {
      source = (record { place = (record { file = 1; line = 15 }); text = (codes "Else"); form = vb.else_line });
      bindings = (record { exprs = ([]); rules = (record { bits = 0 }); mentions = ([]) });
    }) ∷
    (record {
      source = (record {
        place = (record { file = 1; line = 16 });
        text = (codes "P = m");
        form = (vb.assign (vb.word
            (codes "P") suffix.Absent) (vb.word (codes "m") suffix.Absent));
      });
      bindings = (record {
        exprs = ((bound.typed types.long
            (bound.variable (record { 0 = 4 }) false)) ∷ (bound.typed types.long (bound.variable (record { 0 = 0 }) false)) ∷ []);
        rules = (record { bits = 0 });
        mentions = ((mention.Var (record { 0 = 4 })) ∷ (mention.Var (record { 0 = 0 })) ∷ []);
      });
    }) ∷
    (record {
      source = (record { place = (record { file = 1; line = 17 }); text = (codes "End If"); form = vb.end_if });
      bindings
          = (record { exprs = ([]); rules = (record { bits = 0 }); mentions = ([]) });
    }) ∷ [])

abbrev pub body_3 : List bound.Line
body_3 = (
    (record {
      source = (record {
        place = (record { file = 1; line = 22 });
        text = (codes "Inc a");
        form = (vb.invoke (vb.word
            (codes "Inc") suffix.Absent) (vb.next_arg None false (vb.given (vb.word (codes "a") suffix.Absent)) vb.no_args));
      });
      bindings
          = (record {
            exprs = ((bound.typed types.nothing (bound.call (record { 0 = 0 }) false bound.no_object (bound.next_passed
                (bound.by_reference (bound.typed types.long (bound.variable (record { 0 = 5 }) false))) bound.no_passed))) ∷ []);
            rules
                = (record { bits = 0 });
            mentions = ((mention.Proc (record { 0 = 0 })) ∷ (mention.Var (record { 0 = 5 })) ∷ []);
          });
    })
    ∷
    (record {
      source = (record {
        place = (record { file = 1; line = 23 });
        text = (codes "Inc (a)");
        form = (vb.invoke (vb.word
            (codes "Inc") suffix.Absent) (vb.next_arg None false (vb.given (vb.paren (vb.word (codes "a") suffix.Absent))) vb.no_args));
      });
      bindings = (record {
        exprs = ((bound.typed types.nothing (bound.call (record { 0 = 0 }) false bound.no_object (bound.next_passed
            (bound.by_value (bound.typed types.long (bound.variable (record { 0 = 5 }) false))) bound.no_passed))) ∷ []);
        rules =
            (record { bits = 0 });
        mentions = ((mention.Proc (record { 0 = 0 })) ∷ (mention.Var (record { 0 = 5 })) ∷ []);
      });
    }) ∷
    (record {
      source = (record {
        place = (record { file = 1; line = 24 });
        text = (codes "Call Inc(a)");
        form = (vb.call (vb.index
            (vb.word (codes "Inc") suffix.Absent) (vb.next_arg None false (vb.given (vb.word (codes "a") suffix.Absent)) vb.no_args)));
      });
      bindings = (record {
        exprs = ((bound.typed types.nothing (bound.call (record { 0 = 0 }) false bound.no_object (bound.next_passed
            (bound.by_reference (bound.typed types.long (bound.variable (record { 0 = 5 }) false))) bound.no_passed))) ∷ []);
        rules
            = (record { bits = 0 });
        mentions = ((mention.Proc (record { 0 = 0 })) ∷ (mention.Var (record { 0 = 5 })) ∷ []);
      });
    })
    ∷
    (record {
      source = (record {
        place = (record { file = 1; line = 25 });
        text = (codes "Call Inc((a))");
        form = (vb.call
            (vb.index (vb.word (codes "Inc") suffix.Absent) (vb.next_arg None false (vb.given (vb.paren (vb.word (codes "a") suffix.Absent)))
            vb.no_args)));
      });
      bindings = (record {
        exprs = ((bound.typed types.nothing (bound.call (record { 0 = 0 }) false bound.no_object
            (bound.next_passed (bound.by_value (bound.typed types.long (bound.variable (record { 0 = 5 }) false))) bound.no_passed)))
            ∷ []);
        rules = (record { bits = 0 });
        mentions = ((mention.Proc (record { 0 = 0 })) ∷ (mention.Var (record { 0 = 5 }))
            ∷ []);
      });
    }) ∷
    (record {
      source = (record {
        place = (record { file = 1; line = 26 });
        text = (codes "Inc a + 0");
        form = (vb.invoke (vb.word
            (codes "Inc") suffix.Absent) (vb.next_arg None false (vb.given (vb.binary bin.Add (vb.word (codes "a") suffix.Absent)
            (vb.lit (literal.Int (pos 0) false)))) vb.no_args));
      });
      bindings = (record {
        exprs = ((bound.typed types.nothing (bound.call
            (record { 0 = 0 }) false bound.no_object (bound.next_passed (bound.by_value (bound.typed types.long (bound.binary bin.Add
            (bound.typed types.long (bound.variable (record { 0 = 5 }) false)) (bound.typed types.long (bound.convert types.long (bound.typed
            types.integer (bound.constant (value.Int (pos 0)) origin.Literal))))))) bound.no_passed))) ∷ []);
        rules = (record {
          bits
              = 0;
        });
        mentions = ((mention.Proc (record { 0 = 0 })) ∷ (mention.Var (record { 0 = 5 })) ∷ []);
      });
    }) ∷
    (record {
      source = (record {
        place = (record { file = 1; line = 27 });
        text = (codes "Debug.Print a; Fib(6); P");
        form
            = (vb.debug_print ((vb.word (codes "a") suffix.Absent) ∷ (vb.index (vb.word (codes "Fib") suffix.Absent) (vb.next_arg
            None false (vb.given (vb.lit (literal.Int (pos 6) false))) vb.no_args)) ∷ (vb.word (codes "P") suffix.Absent) ∷ []) false);
      });
      bindings = (record {
        exprs = ((bound.typed types.long (bound.variable (record { 0 = 5 }) false)) ∷ (bound.typed types.long
            (bound.call (record { 0 = 1 }) false bound.no_object (bound.next_passed (bound.by_value (bound.typed types.long (bound.convert
            types.long (bound.typed types.integer (bound.constant (value.Int (pos 6)) origin.Literal))))) bound.no_passed))) ∷ (bound.typed
            types.long (bound.call (record { 0 = 2 }) false bound.no_object bound.no_passed)) ∷ []);
        rules = (record { bits = 0 });
        mentions = ((mention.Var (record { 0 = 5 })) ∷ (mention.Proc (record { 0 = 1 })) ∷ (mention.Proc (record { 0 = 2 })) ∷
            []);
      });
    }) ∷
    (record {
      source = (record {
        place = (record { file = 1; line = 28 });
        text = (codes "Set t = New Thermo");
        form = (vb.set
            (vb.word (codes "t") suffix.Absent) (vb.new_object (codes "Thermo")));
      });
      bindings = (record {
        exprs = ((bound.typed (types.class
            0) (bound.variable (record { 0 = 6 }) false)) ∷ (bound.typed (types.class 0) (bound.new_object (record { 0 = 0 }))) ∷
            []);
        rules = (record { bits = 0 });
        mentions = ((mention.Var (record { 0 = 6 })) ∷ (mention.Class (record { 0 = 0 }))
            ∷ []);
      });
    }) ∷
    (record {
      source = (record {
        place = (record { file = 1; line = 29 });
        text = (codes "t.Celsius = -300");
        form = (vb.assign
            (vb.member (vb.word (codes "t") suffix.Absent) (codes "Celsius")) (vb.unary un.Neg (vb.lit (literal.Int (pos 300) false))));
      });
      bindings = (record {
        exprs = ((bound.typed types.long (bound.call (record { 0 = 6 }) false (bound.of_object (bound.typed
            (types.class 0) (bound.variable (record { 0 = 6 }) false))) bound.no_passed)) ∷ (bound.typed types.long (bound.convert
            types.long (bound.typed types.integer (bound.unary un.Neg (bound.typed types.integer (bound.constant (value.Int (pos 300))
            origin.Literal)))))) ∷ []);
        rules = (record { bits = 0 });
        mentions = ((mention.Proc (record { 0 = 6 })) ∷ (mention.Var
            (record { 0 = 6 })) ∷ []);
      });
    }) ∷
    (record {
      source = (record {
        place = (record { file = 1; line = 30 });
        text = (codes "t.Celsius = t.Celsius + 1");
        form
            = (vb.assign (vb.member (vb.word (codes "t") suffix.Absent) (codes "Celsius")) (vb.binary bin.Add (vb.member (vb.word
            (codes "t") suffix.Absent) (codes "Celsius")) (vb.lit (literal.Int (pos 1) false))));
      });
      bindings = (record {
        exprs =
            ((bound.typed types.long (bound.call (record { 0 = 6 }) false (bound.of_object (bound.typed (types.class 0) (bound.variable
            (record { 0 = 6 }) false))) bound.no_passed)) ∷ (bound.typed types.long (bound.binary bin.Add (bound.typed types.long
            (bound.call (record { 0 = 5 }) false (bound.of_object (bound.typed (types.class 0) (bound.variable (record { 0 = 6 })
            false))) bound.no_passed)) (bound.typed types.long (bound.convert types.long (bound.typed types.integer (bound.constant
            (value.Int (pos 1)) origin.Literal)))))) ∷ []);
        rules = (record { bits = 0 });
        mentions = ((mention.Proc (record {
          0 =
              6;
        })) ∷ (mention.Var (record { 0 = 6 })) ∷ (mention.Proc (record { 0 = 5 })) ∷ (mention.Var (record { 0 = 6 })) ∷ []);
      });
    }) ∷
    (record {
      source = (record {
        place = (record { file = 1; line = 31 });
        text = (codes "Debug.Print t.Celsius");
        form =
            (vb.debug_print ((vb.member (vb.word (codes "t") suffix.Absent) (codes "Celsius")) ∷ []) false);
      });
      bindings = (record {
        exprs = ((bound.typed types.long (bound.call (record { 0 = 5 }) false (bound.of_object (bound.typed (types.class 0)
            (bound.variable (record { 0 = 6 }) false))) bound.no_passed)) ∷ []);
        rules = (record { bits = 0 });
        mentions = ((mention.Proc
            (record { 0 = 5 })) ∷ (mention.Var (record { 0 = 6 })) ∷ []);
      });
    }) ∷
    (record {
      source = (record {
        place = (record { file = 1; line = 32 });
        text = (codes "Set x = t.Child");
        form = (vb.set
            (vb.word (codes "x") suffix.Absent) (vb.member (vb.word (codes "t") suffix.Absent) (codes "Child")));
      });
      bindings = (record {
        exprs = ((bound.typed (types.class 1) (bound.variable (record { 0 = 7 }) false)) ∷ (bound.typed (types.class 1) (bound.field
            (bound.typed (types.class 0) (bound.variable (record { 0 = 6 }) false)) 1)) ∷ []);
        rules = (record { bits = 0 });
        mentions
            = ((mention.Var (record { 0 = 7 })) ∷ (mention.Var (record { 0 = 9 })) ∷ (mention.Var (record { 0 = 6 })) ∷ []);
      });
    })
    ∷
    (record {
      source = (record {
        place = (record { file = 1; line = 33 });
        text = (codes "Do Until x Is Nothing");
        form =
            (vb.do_until (vb.binary bin.Is (vb.word (codes "x") suffix.Absent) (vb.word (codes "Nothing") suffix.Absent)));
      });
      bindings
          = (record {
            exprs = ((bound.typed types.boolean (bound.is_same (bound.typed (types.class 1) (bound.variable (record {
              0 = 7;
            }) false)) (bound.typed types.nothing (bound.constant value.Nothing origin.Literal)))) ∷ []);
            rules = (record {
              bits = 0;
            });
            mentions = ((mention.Var (record { 0 = 7 })) ∷ []);
          });
    }) ∷
    (record {
      source = (record {
        place = (record { file = 1; line = 34 });
        text = (codes "Debug.Print x.k");
        form = (vb.debug_print
            ((vb.member (vb.word (codes "x") suffix.Absent) (codes "k")) ∷ []) false);
      });
      bindings = (record {
        exprs = ((bound.typed
            types.long (bound.field (bound.typed (types.class 1) (bound.variable (record { 0 = 7 }) false)) 0)) ∷ []);
        rules = (record
            { bits = 0 });
        mentions = ((mention.Var (record { 0 = 12 })) ∷ (mention.Var (record { 0 = 7 })) ∷ []);
      });
    }) ∷
    (record {
      source = (record {
        place = (record { file = 1; line = 35 });
        text = (codes "Set x = x.Next1");
        form = (vb.set
            (vb.word (codes "x") suffix.Absent) (vb.member (vb.word (codes "x") suffix.Absent) (codes "Next1")));
      });
      bindings = (record {
        exprs = ((bound.typed (types.class 1) (bound.variable (record { 0 = 7 }) false)) ∷ (bound.typed (types.class 1) (bound.field
            (bound.typed (types.class 1) (bound.variable (record { 0 = 7 }) false)) 1)) ∷ []);
        rules = (record { bits = 0 });
        mentions
            = ((mention.Var (record { 0 = 7 })) ∷ (mention.Var (record { 0 = 13 })) ∷ (mention.Var (record { 0 = 7 })) ∷ []);
      });
    })
    ∷
    (record {
      source = (record { place = (record { file = 1; line = 36 }); text = (codes "Loop"); form = vb.loop });
      bindings
          = (record { exprs = ([]); rules = (record { bits = 0 }); mentions = ([]) });
    }) ∷
    (record {
      source = (record {
        place = (record { file = 1; line = 37 });
        text = (codes "With New Node");
        form = (vb.with_head
            (vb.new_object (codes "Node")));
      });
      bindings = (record {
        exprs = ((bound.typed (types.class 1) (bound.new_object (record
            { 0 = 1 }))) ∷ []);
        rules = (record { bits = 0 });
        mentions = ((mention.Class (record { 0 = 1 })) ∷ []);
      });
    }) ∷
    (record {
      source = (record {
        place = (record { file = 1; line = 38 });
        text = (codes ".k = 4");
        form = (vb.assign (vb.with_member
            (codes "k")) (vb.lit (literal.Int (pos 4) false)));
      });
      bindings = (record {
        exprs = ((bound.typed types.long (bound.field
            (bound.typed (types.class 1) (bound.with_object root.Temporary)) 0)) ∷ (bound.typed types.long (bound.convert types.long
            (bound.typed types.integer (bound.constant (value.Int (pos 4)) origin.Literal)))) ∷ []);
        rules = (record { bits = 0 });
        mentions = ((mention.Var (record { 0 = 12 })) ∷ []);
      });
    }) ∷
    (record {
      source = (record {
        place = (record { file = 1; line = 39 });
        text = (codes "Debug.Print .k");
        form = (vb.debug_print
            ((vb.with_member (codes "k")) ∷ []) false);
      });
      bindings = (record {
        exprs = ((bound.typed types.long (bound.field (bound.typed
            (types.class 1) (bound.with_object root.Temporary)) 0)) ∷ []);
        rules = (record { bits = 0 });
        mentions = ((mention.Var
            (record { 0 = 12 })) ∷ []);
      });
    }) ∷
    (record {
      source = (record { place = (record { file = 1; line = 40 }); text = (codes "End With"); form = vb.end_with });
      bindings = (record { exprs = ([]); rules = (record { bits = 0 }); mentions = ([]) });
    }) ∷ [])

abbrev pub body_4 : List bound.Line
body_4 = (
    (record {
      source = (record {
        place = (record { file = 2; line = 8 });
        text = (codes "Set Child = New Node");
        form = (vb.set
            (vb.word (codes "Child") suffix.Absent) (vb.new_object (codes "Node")));
      });
      bindings = (record {
        exprs = ((bound.typed
            (types.class 1) (bound.variable (record { 0 = 9 }) false)) ∷ (bound.typed (types.class 1) (bound.new_object (record {
              0 = 1;
            }))) ∷ []);
        rules = (record { bits = 0 });
        mentions = ((mention.Var (record { 0 = 9 })) ∷ (mention.Class (record
            { 0 = 1 })) ∷ []);
      });
    }) ∷
    (record {
      source = (record {
        place = (record { file = 2; line = 9 });
        text = (codes "Child.k = 1");
        form = (vb.assign
            (vb.member (vb.word (codes "Child") suffix.Absent) (codes "k")) (vb.lit (literal.Int (pos 1) false)));
      });
      bindings = (record {
        exprs = ((bound.typed types.long (bound.field (bound.typed (types.class 1) (bound.variable (record { 0 = 9 }) false))
            0)) ∷ (bound.typed types.long (bound.convert types.long (bound.typed types.integer (bound.constant (value.Int (pos 1))
            origin.Literal)))) ∷ []);
        rules = (record { bits = 0 });
        mentions = ((mention.Var (record { 0 = 12 })) ∷ (mention.Var
            (record { 0 = 9 })) ∷ []);
      });
    }) ∷
    (record {
      source = (record {
        place = (record { file = 2; line = 10 });
        text = (codes "Set Child.Next1 = New Node");
        form
            = (vb.set (vb.member (vb.word (codes "Child") suffix.Absent) (codes "Next1")) (vb.new_object (codes "Node")));
      });
      bindings
          = (record {
            exprs = ((bound.typed (types.class 1) (bound.field (bound.typed (types.class 1) (bound.variable (record {
              0 = 9;
            }) false)) 1)) ∷ (bound.typed (types.class 1) (bound.new_object (record { 0 = 1 }))) ∷ []);
            rules = (record {
              bits
                  = 0;
            });
            mentions = ((mention.Var (record { 0 = 13 })) ∷ (mention.Var (record { 0 = 9 })) ∷ (mention.Class (record {
              0
                  = 1;
            })) ∷ []);
          });
    }) ∷ [])

abbrev pub body_5 : List bound.Line
body_5 = (
    (record {
      source = (record {
        place = (record { file = 2; line = 14 });
        text = (codes "Celsius = c");
        form = (vb.assign
            (vb.word (codes "Celsius") suffix.Absent) (vb.word (codes "c") suffix.Absent));
      });
      bindings = (record {
        exprs = ((bound.typed
            types.long (bound.variable (record { 0 = 10 }) false)) ∷ (bound.typed types.long (bound.variable (record { 0 = 8 }) false))
            ∷ []);
        rules = (record { bits = 0 });
        mentions = ((mention.Var (record { 0 = 10 })) ∷ (mention.Var (record { 0 = 8 }))
            ∷ []);
      });
    }) ∷ [])

abbrev pub body_6 : List bound.Line
body_6 = (
    (record {
      source = (record {
        place = (record { file = 2; line = 18 });
        text = (codes "If v < -273 Then");
        form = (vb.line_if
            (vb.binary bin.Less (vb.word (codes "v") suffix.Absent) (vb.unary un.Neg (vb.lit (literal.Int (pos 273) false)))));
      });
      bindings = (record {
        exprs = ((bound.typed types.boolean (bound.binary bin.Less (bound.typed types.long (bound.variable
            (record { 0 = 11 }) false)) (bound.typed types.long (bound.convert types.long (bound.typed types.integer (bound.unary
            un.Neg (bound.typed types.integer (bound.constant (value.Int (pos 273)) origin.Literal)))))))) ∷ []);
        rules = (record
            { bits = 0 });
        mentions = ((mention.Var (record { 0 = 11 })) ∷ []);
      });
    }) ∷
    (record {
      source = (record {
        place = (record { file = 2; line = 18 });
        text = (codes "v = -273");
        form = (vb.assign (vb.word
            (codes "v") suffix.Absent) (vb.unary un.Neg (vb.lit (literal.Int (pos 273) false))));
      });
      bindings = (record {
        exprs =
            ((bound.typed types.long (bound.variable (record { 0 = 11 }) false)) ∷ (bound.typed types.long (bound.convert types.long
            (bound.typed types.integer (bound.unary un.Neg (bound.typed types.integer (bound.constant (value.Int (pos 273)) origin.Literal))))))
            ∷ []);
        rules = (record { bits = 0 });
        mentions = ((mention.Var (record { 0 = 11 })) ∷ []);
      });
    }) ∷
    (record {
      source = (record { place = (record { file = 2; line = 18 }); text = (codes "End If"); form = vb.end_if });
      bindings
          = (record { exprs = ([]); rules = (record { bits = 0 }); mentions = ([]) });
    }) ∷
    (record {
      source = (record {
        place = (record { file = 2; line = 19 });
        text = (codes "c = v");
        form = (vb.assign (vb.word
            (codes "c") suffix.Absent) (vb.word (codes "v") suffix.Absent));
      });
      bindings = (record {
        exprs = ((bound.typed types.long
            (bound.variable (record { 0 = 8 }) false)) ∷ (bound.typed types.long (bound.variable (record { 0 = 11 }) false)) ∷ []);
        rules = (record { bits = 0 });
        mentions = ((mention.Var (record { 0 = 8 })) ∷ (mention.Var (record { 0 = 11 })) ∷ []);
      });
    }) ∷ [])

abbrev pub bodies : List (List bound.Line)
bodies = body_0 ∷ body_1 ∷ body_2 ∷ body_3 ∷ body_4 ∷ body_5 ∷ body_6 ∷ []

abbrev pub program : bound.Program
program = record { declarations = declarations; bodies = bodies }

abbrev pub quiet : List (List Bool)
quiet = ((false ∷ []) ∷ (false ∷ []) ∷ ([]) ∷ ([]) ∷ ([]) ∷ ([]) ∷ (false ∷ []) ∷ [])

abbrev pub lows : List (VarId × ℤ × ℤ)
lows = ([])

abbrev pub clean : List Bool
clean = (true ∷ true ∷ true ∷ true ∷ true ∷ true ∷ true ∷ [])

abbrev pub written : net.Project
written = (record {
  library = false;
  main = (Some (codes "Main1"));
  note = None;
  modules = ((record {
    name = (codes "Main1");
    class = false;
    members = (
        (net.variable net_visible.Private (record { name = (codes "m"); ty = net_types.integer; value = None })) ∷
        (net.proc (record {
          head = (net.sub net_visible.Public (codes "Inc") ((record {
            passing = net_passing.Reference;
            name
                = (codes "n");
            ty = net_types.integer;
          }) ∷ []));
          prologue = ([]);
          lines = (
              (net.assign (net.path ((codes "n") ∷ [])) (net.binary net_bin.Add (net.path ((codes "n") ∷ [])) (net.lit (net.integer
              (pos 1) false)))) ∷ []);
          close = close.EndSub;
        })) ∷
        (net.proc (record {
          head = (net.function net_visible.Public (codes "Fib") ((record {
            passing = net_passing.Value;
            name
                = (codes "n");
            ty = net_types.integer;
          }) ∷ []) net_types.integer);
          prologue = ([]);
          lines = (
              (net.if_head (net.binary net_bin.Less (net.path ((codes "n") ∷ [])) (net.lit (net.integer (pos 2) false)))) ∷
              (net.assign (net.path ((codes "Fib") ∷ [])) (net.path ((codes "n") ∷ []))) ∷
              net.else_line ∷
              (net.assign (net.path ((codes "Fib") ∷ [])) (net.binary net_bin.Add (net.call_of (net.path ((codes "Fib") ∷ [])) (net.next_exp
              (net.binary net_bin.Sub (net.path ((codes "n") ∷ [])) (net.lit (net.integer (pos 1) false))) net.no_exps)) (net.call_of
              (net.path ((codes "Fib") ∷ [])) (net.next_exp (net.binary net_bin.Sub (net.path ((codes "n") ∷ [])) (net.lit (net.integer
              (pos 2) false))) net.no_exps)))) ∷
              net.end_if ∷ []);
          close = close.EndFunction;
        })) ∷
        (net.property (record {
          visibility = net_visible.Public;
          name = (codes "P");
          params = ([]);
          ty = net_types.integer;
          get_comments
              = ([]);
          get = (Some (record {
            head = net.get_part;
            prologue = ([]);
            lines = (
                (net.assign (net.path ((codes "m") ∷ [])) (net.binary net_bin.Add (net.path ((codes "m") ∷ [])) (net.lit (net.integer
                (pos 1) false)))) ∷
                (net.if_head (net.binary net_bin.Less (net.path ((codes "m") ∷ [])) (net.lit (net.integer (pos 3) false)))) ∷
                (net.assign (net.path ((codes "P") ∷ [])) (net.binary net_bin.Add (net.call_of (net.path ((codes "P") ∷ [])) net.no_exps)
                (net.lit (net.integer (pos 10) false)))) ∷
                net.else_line ∷
                (net.assign (net.path ((codes "P") ∷ [])) (net.path ((codes "m") ∷ []))) ∷
                net.end_if ∷ []);
            close = close.EndGet;
          }));
          set_comments = ([]);
          set = None;
        })) ∷
        (net.proc (record {
          head = (net.sub net_visible.Public (codes "Main") ([]));
          prologue = (
              (net.local (record { name = (codes "a"); ty = net_types.integer; value = None })) ∷
              (net.local (record { name = (codes "t"); ty = (net_types.named ((codes "Thermo") ∷ [])); value = None })) ∷
              (net.local (record { name = (codes "x"); ty = (net_types.named ((codes "Node") ∷ [])); value = None })) ∷ []);
          lines =
              (
              (net.call (net.path ((codes "Inc") ∷ [])) (net.next_exp (net.path ((codes "a") ∷ [])) net.no_exps)) ∷
              (net.call (net.path ((codes "Inc") ∷ [])) (net.next_exp (net.paren (net.path ((codes "a") ∷ []))) net.no_exps)) ∷
              (net.call (net.path ((codes "Inc") ∷ [])) (net.next_exp (net.path ((codes "a") ∷ [])) net.no_exps)) ∷
              (net.call (net.path ((codes "Inc") ∷ [])) (net.next_exp (net.paren (net.path ((codes "a") ∷ []))) net.no_exps)) ∷
              (net.call (net.path ((codes "Inc") ∷ [])) (net.next_exp (net.binary net_bin.Add (net.path ((codes "a") ∷ [])) (net.lit
              (net.integer (pos 0) false))) net.no_exps)) ∷
              (net.call (net.path ((codes "UpgradeSupport") ∷ (codes "PrintLine") ∷ [])) (net.next_exp (net.binary net_bin.Concat (net.binary
              net_bin.Concat (net.call_of (net.path ((codes "UpgradeSupport") ∷ (codes "PrintNum") ∷ [])) (net.next_exp (net.cast cast.CDec
              (net.path ((codes "a") ∷ []))) net.no_exps)) (net.call_of (net.path ((codes "UpgradeSupport") ∷ (codes "PrintNum") ∷ []))
              (net.next_exp (net.cast cast.CDec (net.call_of (net.path ((codes "Fib") ∷ [])) (net.next_exp (net.lit (net.integer (pos
              6) false)) net.no_exps))) net.no_exps))) (net.call_of (net.path ((codes "UpgradeSupport") ∷ (codes "PrintNum") ∷ []))
              (net.next_exp (net.cast cast.CDec (net.path ((codes "P") ∷ []))) net.no_exps))) net.no_exps)) ∷
              (net.assign (net.path ((codes "t") ∷ [])) (net.new_object (net_types.named ((codes "Thermo") ∷ [])) net.no_exps)) ∷
              (net.assign (net.path ((codes "t") ∷ (codes "Celsius") ∷ [])) (net.cast cast.CInt (net.unary net_un.Neg (net.lit (net.short
              (pos 300) false))))) ∷
              (net.assign (net.path ((codes "t") ∷ (codes "Celsius") ∷ [])) (net.binary net_bin.Add (net.path ((codes "t") ∷ (codes
              "Celsius") ∷ [])) (net.lit (net.integer (pos 1) false)))) ∷
              (net.call (net.path ((codes "UpgradeSupport") ∷ (codes "PrintLine") ∷ [])) (net.next_exp (net.call_of (net.path ((codes
              "UpgradeSupport") ∷ (codes "PrintNum") ∷ [])) (net.next_exp (net.cast cast.CDec (net.path ((codes "t") ∷ (codes "Celsius")
              ∷ []))) net.no_exps)) net.no_exps)) ∷
              (net.assign (net.path ((codes "x") ∷ [])) (net.path ((codes "t") ∷ (codes "Child") ∷ []))) ∷
              (net.do_until (net.binary net_bin.Is (net.path ((codes "x") ∷ [])) net.nothing)) ∷
              (net.call (net.path ((codes "UpgradeSupport") ∷ (codes "PrintLine") ∷ [])) (net.next_exp (net.call_of (net.path ((codes
              "UpgradeSupport") ∷ (codes "PrintNum") ∷ [])) (net.next_exp (net.cast cast.CDec (net.path ((codes "x") ∷ (codes "k") ∷
              []))) net.no_exps)) net.no_exps)) ∷
              (net.assign (net.path ((codes "x") ∷ [])) (net.path ((codes "x") ∷ (codes "Next1") ∷ []))) ∷
              net.loop ∷
              (net.with_head (net.new_object (net_types.named ((codes "Node") ∷ [])) net.no_exps)) ∷
              (net.assign (net.with_dot (codes "k")) (net.lit (net.integer (pos 4) false))) ∷
              (net.call (net.path ((codes "UpgradeSupport") ∷ (codes "PrintLine") ∷ [])) (net.next_exp (net.call_of (net.path ((codes
              "UpgradeSupport") ∷ (codes "PrintNum") ∷ [])) (net.next_exp (net.cast cast.CDec (net.with_dot (codes "k"))) net.no_exps))
              net.no_exps)) ∷
              net.end_with ∷ []);
          close = close.EndSub;
        })) ∷ []);
  }) ∷ (record {
    name = (codes "Thermo");
    class = true;
    members = (
        (net.proc (record {
          head = net.sub_new;
          prologue = ([]);
          lines = (
              (net.call (net.path ((codes "Class_Initialize") ∷ [])) net.no_exps) ∷ []);
          close = close.EndSub;
        })) ∷
        (net.variable net_visible.Private (record { name = (codes "c"); ty = net_types.integer; value = None })) ∷
        (net.variable net_visible.Public (record {
          name = (codes "Child");
          ty = (net_types.named ((codes "Node") ∷ []));
          value
              = None;
        })) ∷
        (net.proc (record {
          head = (net.sub net_visible.Private (codes "Class_Initialize") ([]));
          prologue = ([]);
          lines = (
              (net.assign (net.path ((codes "Child") ∷ [])) (net.new_object (net_types.named ((codes "Node") ∷ [])) net.no_exps)) ∷
              (net.assign (net.path ((codes "Child") ∷ (codes "k") ∷ [])) (net.lit (net.integer (pos 1) false))) ∷
              (net.assign (net.path ((codes "Child") ∷ (codes "Next1") ∷ [])) (net.new_object (net_types.named ((codes "Node") ∷ []))
              net.no_exps)) ∷ []);
          close = close.EndSub;
        })) ∷
        (net.property (record {
          visibility = net_visible.Public;
          name = (codes "Celsius");
          params = ([]);
          ty = net_types.integer;
          get_comments = ([]);
          get = (Some (record {
            head = net.get_part;
            prologue = ([]);
            lines = (
                (net.assign (net.path ((codes "Celsius") ∷ [])) (net.path ((codes "c") ∷ []))) ∷ []);
            close = close.EndGet;
          }));
          set_comments
              = ([]);
          set = (Some (record {
            head = (net.set_part (codes "v") net_types.integer);
            prologue = ([]);
            lines = (
                (net.if_head (net.binary net_bin.Less (net.path ((codes "v") ∷ [])) (net.cast cast.CInt (net.unary net_un.Neg (net.lit
                (net.short (pos 273) false)))))) ∷
                (net.assign (net.path ((codes "v") ∷ [])) (net.cast cast.CInt (net.unary net_un.Neg (net.lit (net.short (pos 273) false)))))
                ∷
                net.end_if ∷
                (net.assign (net.path ((codes "c") ∷ [])) (net.path ((codes "v") ∷ []))) ∷ []);
            close = close.EndSet;
          }));
        })) ∷ []);
  })
      ∷ (record {
        name = (codes "Node");
        class = true;
        members = (
            (net.variable net_visible.Public (record { name = (codes "k"); ty = net_types.integer; value = None })) ∷
            (net.variable net_visible.Public (record {
              name = (codes "Next1");
              ty = (net_types.named ((codes "Node") ∷ []));
              value
                  = None;
            })) ∷ []);
      }) ∷ []);
  support = (record {
    name = (codes "UpgradeSupport");
    class = false;
    members = (
        (net.proc (record {
          head = (net.sub net_visible.Public (codes "PrintLine") ((record {
            passing = net_passing.Value;
            name
                = (codes "s");
            ty = net_types.str;
          }) ∷ []));
          prologue = ([]);
          lines = (
              (net.call (net.path ((codes "System") ∷ (codes "Console") ∷ (codes "WriteLine") ∷ [])) (net.next_exp (net.path ((codes
              "s") ∷ [])) net.no_exps)) ∷ []);
          close = close.EndSub;
        })) ∷
        (net.proc (record {
          head = (net.function net_visible.Public (codes "CurText") ((record {
            passing = net_passing.Value;
            name = (codes "d");
            ty = net_types.decimal;
          }) ∷ []) net_types.str);
          prologue = ([]);
          lines = (
              (net.assign (net.path ((codes "CurText") ∷ [])) (net.call_of (net.path ((codes "d") ∷ (codes "ToString") ∷ [])) (net.next_exp
              (net.lit (net.str (codes "0.####"))) (net.next_exp (net.path ((codes "System") ∷ (codes "Globalization") ∷ (codes "CultureInfo")
              ∷ (codes "InvariantCulture") ∷ [])) net.no_exps)))) ∷ []);
          close = close.EndFunction;
        })) ∷
        (net.proc (record {
          head = (net.function net_visible.Public (codes "PrintNum") ((record {
            passing = net_passing.Value;
            name = (codes "d");
            ty = net_types.decimal;
          }) ∷ []) net_types.str);
          prologue = ([]);
          lines = (
              (net.if_head (net.binary net_bin.Less (net.path ((codes "d") ∷ [])) (net.lit (net.decimal (pos 0))))) ∷
              (net.assign (net.path ((codes "PrintNum") ∷ [])) (net.binary net_bin.Concat (net.call_of (net.path ((codes "CurText")
              ∷ [])) (net.next_exp (net.path ((codes "d") ∷ [])) net.no_exps)) (net.lit (net.str (codes " "))))) ∷
              net.else_line ∷
              (net.assign (net.path ((codes "PrintNum") ∷ [])) (net.binary net_bin.Concat (net.binary net_bin.Concat (net.lit (net.str
              (codes " "))) (net.call_of (net.path ((codes "CurText") ∷ [])) (net.next_exp (net.path ((codes "d") ∷ [])) net.no_exps)))
              (net.lit (net.str (codes " "))))) ∷
              net.end_if ∷ []);
          close = close.EndFunction;
        })) ∷ []);
  });
})

abbrev pub runnable : Runnable
runnable = runnable_of program quiet lows

said : ran runnable 3 2000 ≡ (
  line (codes " 2  8  23 ")
      ++ line (codes "-272 ")
      ++ line (codes " 1 ")
      ++ line (codes " 0 ")
      ++ line (codes " 4 "),
  ended,
)
unfolding digits
said = refl

said_written : ran_written written 3 2000 ≡ (
  line (codes " 2  8  23 ")
      ++ line (codes "-272 ")
      ++ line (codes " 1 ")
      ++ line (codes " 0 ")
      ++ line (codes " 4 "),
  ended,
)
unfolding digits
said_written = refl
