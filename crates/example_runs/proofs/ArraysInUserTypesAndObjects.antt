-- The program arrays-in-user-types-and-objects, what it puts out and how it ends.
use Rattle.std.proofs.Common.{◌≡◌, refl, ◌++◌, List, ℤ, pos, negsuc, Bool, true, false, [], ◌∷◌, codes, Some, None}
use Rattle.vb_tree.specs.declared.declared.VarId.{VarId}
use Rattle.bound_tree.specs.Tree as bound
use Rattle.net_tree.specs.Tree as net
use Rattle.net_tree.specs.Types as net_types
use Rattle.vb_tree.specs.BoundTree as types
use Rattle.vb_tree.specs.Tree as vb
use Rattle.vb_tree.specs.declared.expression.BinOp.TheVariants as bin
use Rattle.net_tree.specs.declared.expression.CastWord.TheVariants as cast
use Rattle.net_tree.specs.declared.declaration.NetClose.TheVariants as close
use Rattle.vb_tree.specs.declared.declared.ProcKind.TheVariants as kind
use Rattle.vb_tree.specs.declared.bound.LibCall.TheVariants as lib
use Rattle.vb_tree.specs.declared.token.Literal6.TheVariants as literal
use Rattle.bound_tree.specs.declared.body.Mention.TheVariants as mention
use Rattle.bound_tree.specs.declared.declared.Named.TheVariants as named
use Rattle.net_tree.specs.declared.expression.NetBin.TheVariants as net_bin
use Rattle.net_tree.specs.declared.declaration.NetPassing.TheVariants as net_passing
use Rattle.net_tree.specs.declared.expression.NetUn.TheVariants as net_un
use Rattle.net_tree.specs.declared.declaration.NetVisibility.TheVariants as net_visible
use Rattle.bound_tree.specs.declared.expression.Origin.TheVariants as origin
use Rattle.vb_tree.specs.declared.declared.Owner.TheVariants as owner
use Rattle.vb_tree.specs.declared.form_parts.Passing.TheVariants as passing
use Rattle.vb_tree.specs.declared.project.ProjectKind.TheVariants as project_kind
use Rattle.bound_tree.specs.declared.declared.Scope.TheVariants as scope
use Rattle.vb_tree.specs.declared.token.Suffix.TheVariants as suffix
use Rattle.vb_tree.specs.declared.value.Value6.TheVariants as value
use Rattle.vb_tree.specs.declared.form_parts.VarWord.TheVariants as var
use Rattle.vb_tree.specs.declared.form_parts.Visibility.TheVariants as visible
use Rattle.std.specs.Fmt.{digits}
use Rattle.example_runs.proofs.Said.{ended, line, ran, ran_written, runnable_of}
use Rattle.vb6_run.specs.Runnables.{Runnable}

abbrev pub project : vb.Project
project = (record {
  file = (record {
    kind = project_kind.Exe;
    startup = (Some (4, (codes "Sub Main")));
    entries = ((record
        { line = 2; class = false; name = (codes "Main1"); file = (codes "Main1.bas") }) ∷ (record {
          line = 3;
          class = true;
          name
              = (codes "Node");
          file = (codes "Node.cls");
        }) ∷ []);
    dropped = ([]);
  });
  modules = ((record {
    file = 1;
    name = (codes
        "Main1");
    class = false;
    members = (
        (vb.group (record {
          place = (record { file = 1; line = 1 });
          text = (codes "Private Type Box");
          form = (vb.type_head (Some
              visible.Private) (codes "Box") suffix.Absent);
        }) ((record {
          place = (record { file = 1; line = 2 });
          text = (codes "N As Long");
          form = (vb.field (codes "N") suffix.Absent None (vb.named (codes "Long")));
        }) ∷ (record {
          place = (record {
            file = 1;
            line = 3;
          });
          text = (codes "T(1 To 3) As Long");
          form = (vb.field (codes "T") suffix.Absent (Some ((record {
            lower = (Some
                (vb.lit (literal.Int (pos 1) false)));
            upper = (vb.lit (literal.Int (pos 3) false));
          }) ∷ [])) (vb.named (codes "Long")));
        }) ∷ (record {
          place = (record { file = 1; line = 4 });
          text = (codes "F() As String");
          form = (vb.field (codes "F") suffix.Absent
              (Some ([])) (vb.named (codes "String")));
        }) ∷ []) (record {
          place = (record { file = 1; line = 5 });
          text = (codes "End Type");
          form = vb.end_type;
        })) ∷
        (vb.group (record {
          place = (record { file = 1; line = 6 });
          text = (codes "Private Type Shelf");
          form = (vb.type_head
              (Some visible.Private) (codes "Shelf") suffix.Absent);
        }) ((record {
          place = (record { file = 1; line = 7 });
          text = (codes
              "B As Box");
          form = (vb.field (codes "B") suffix.Absent None (vb.named (codes "Box")));
        }) ∷ []) (record {
          place = (record
              { file = 1; line = 8 });
          text = (codes "End Type");
          form = vb.end_type;
        })) ∷
        (vb.alone (record {
          place = (record { file = 1; line = 9 });
          text = (codes "Private s As Shelf");
          form = (vb.variables
              var.Private ((record {
                name = (codes "s");
                suffix = suffix.Absent;
                bounds = None;
                auto = false;
                ty = (Some (vb.named (codes
                    "Shelf")));
              }) ∷ []));
        })) ∷
        (vb.proc (record {
          place = (record { file = 1; line = 11 });
          text = (codes "Sub Inc(n As Long)");
          form = (vb.sub_head
              (record {
                visibility = None;
                name = (codes "Inc");
                suffix = suffix.Absent;
                params = ((record {
                  optional = false;
                  passing
                      = passing.Unsaid;
                  param_array = false;
                  name = (codes "n");
                  suffix = suffix.Absent;
                  array = false;
                  ty = (Some (vb.named
                      (codes "Long")));
                  preset = None;
                }) ∷ []);
              }));
        }) (vb.next_node
        (vb.line (record {
          place = (record { file = 1; line = 12 });
          text = (codes "n = n + 1");
          form = (vb.assign (vb.word
              (codes "n") suffix.Absent) (vb.binary bin.Add (vb.word (codes "n") suffix.Absent) (vb.lit (literal.Int (pos 1) false))));
        })) vb.no_nodes) (record { place = (record { file = 1; line = 13 }); text = (codes "End Sub"); form = vb.end_sub })) ∷
        (vb.proc (record {
          place = (record { file = 1; line = 15 });
          text = (codes "Sub Main()");
          form = (vb.sub_head (record
              { visibility = None; name = (codes "Main"); suffix = suffix.Absent; params = ([]) }));
        }) (vb.next_node
        (vb.line (record {
          place = (record { file = 1; line = 16 });
          text = (codes "Dim b As Box, o As Node");
          form = (vb.variables
              var.Dim ((record {
                name = (codes "b");
                suffix = suffix.Absent;
                bounds = None;
                auto = false;
                ty = (Some (vb.named (codes
                    "Box")));
              }) ∷ (record {
                name = (codes "o");
                suffix = suffix.Absent;
                bounds = None;
                auto = false;
                ty = (Some (vb.named
                    (codes "Node")));
              }) ∷ []));
        })) (vb.next_node
        (vb.line (record {
          place = (record { file = 1; line = 17 });
          text = (codes "b.T(1) = 5");
          form = (vb.assign (vb.index
              (vb.member (vb.word (codes "b") suffix.Absent) (codes "T")) (vb.next_arg None false (vb.given (vb.lit (literal.Int (pos
              1) false))) vb.no_args)) (vb.lit (literal.Int (pos 5) false)));
        })) (vb.next_node
        (vb.line (record {
          place = (record { file = 1; line = 18 });
          text = (codes "b.T(2) = b.T(1) + 1");
          form = (vb.assign
              (vb.index (vb.member (vb.word (codes "b") suffix.Absent) (codes "T")) (vb.next_arg None false (vb.given (vb.lit (literal.Int
              (pos 2) false))) vb.no_args)) (vb.binary bin.Add (vb.index (vb.member (vb.word (codes "b") suffix.Absent) (codes "T"))
              (vb.next_arg None false (vb.given (vb.lit (literal.Int (pos 1) false))) vb.no_args)) (vb.lit (literal.Int (pos 1) false))));
        })) (vb.next_node
        (vb.line (record {
          place = (record { file = 1; line = 19 });
          text = (codes "ReDim b.F(2)");
          form = (vb.redim false ((record {
            array = (vb.member (vb.word (codes "b") suffix.Absent) (codes "F"));
            bounds = ((record {
              lower = None;
              upper = (vb.lit
                  (literal.Int (pos 2) false));
            }) ∷ []);
            ty = None;
          }) ∷ []));
        })) (vb.next_node
        (vb.line (record {
          place = (record { file = 1; line = 20 });
          text = (98 ∷ 46 ∷ 70 ∷ 40 ∷ 49 ∷ 41 ∷ 32 ∷ 61 ∷ 32 ∷ 34
              ∷ 120 ∷ 34 ∷ []);
          form = (vb.assign (vb.index (vb.member (vb.word (codes "b") suffix.Absent) (codes "F")) (vb.next_arg
              None false (vb.given (vb.lit (literal.Int (pos 1) false))) vb.no_args)) (vb.lit (literal.Str (codes "x"))));
        })) (vb.next_node
        (vb.line (record {
          place = (record { file = 1; line = 21 });
          text = (codes "Inc b.T(2)");
          form = (vb.invoke (vb.word
              (codes "Inc") suffix.Absent) (vb.next_arg None false (vb.given (vb.index (vb.member (vb.word (codes "b") suffix.Absent)
              (codes "T")) (vb.next_arg None false (vb.given (vb.lit (literal.Int (pos 2) false))) vb.no_args))) vb.no_args));
        })) (vb.next_node
        (vb.line (record {
          place = (record { file = 1; line = 22 });
          text = (codes "s.B.T(3) = 7");
          form = (vb.assign (vb.index
              (vb.member (vb.member (vb.word (codes "s") suffix.Absent) (codes "B")) (codes "T")) (vb.next_arg None false (vb.given
              (vb.lit (literal.Int (pos 3) false))) vb.no_args)) (vb.lit (literal.Int (pos 7) false)));
        })) (vb.next_node
        (vb.line (record {
          place = (record { file = 1; line = 23 });
          text = (codes "Inc s.B.T(3)");
          form = (vb.invoke (vb.word
              (codes "Inc") suffix.Absent) (vb.next_arg None false (vb.given (vb.index (vb.member (vb.member (vb.word (codes "s") suffix.Absent)
              (codes "B")) (codes "T")) (vb.next_arg None false (vb.given (vb.lit (literal.Int (pos 3) false))) vb.no_args))) vb.no_args));
        })) (vb.next_node
        (vb.line (record {
          place = (record { file = 1; line = 24 });
          text = (codes "Inc Main1.s.B.T(3)");
          form = (vb.invoke
              (vb.word (codes "Inc") suffix.Absent) (vb.next_arg None false (vb.given (vb.index (vb.member (vb.member (vb.member (vb.word
              (codes "Main1") suffix.Absent) (codes "s")) (codes "B")) (codes "T")) (vb.next_arg None false (vb.given (vb.lit (literal.Int
              (pos 3) false))) vb.no_args))) vb.no_args));
        })) (vb.next_node
        (vb.line (record {
          place = (record { file = 1; line = 25 });
          text = (codes "Debug.Print b.T(1); b.T(2); b.F(1); UBound(b.F); s.B.T(3); LBound(b.T)");
          form = (vb.debug_print ((vb.index (vb.member (vb.word (codes "b") suffix.Absent) (codes "T")) (vb.next_arg None false
              (vb.given (vb.lit (literal.Int (pos 1) false))) vb.no_args)) ∷ (vb.index (vb.member (vb.word (codes "b") suffix.Absent)
              (codes "T")) (vb.next_arg None false (vb.given (vb.lit (literal.Int (pos 2) false))) vb.no_args)) ∷ (vb.index (vb.member
              (vb.word (codes "b") suffix.Absent) (codes "F")) (vb.next_arg None false (vb.given (vb.lit (literal.Int (pos 1) false)))
              vb.no_args)) ∷ (vb.index (vb.word (codes "UBound") suffix.Absent) (vb.next_arg None false (vb.given (vb.member (vb.word
              (codes "b") suffix.Absent) (codes "F"))) vb.no_args)) ∷ (vb.index (vb.member (vb.member (vb.word (codes "s") suffix.Absent)
              (codes "B")) (codes "T")) (vb.next_arg None false (vb.given (vb.lit (literal.Int (pos 3) false))) vb.no_args)) ∷ (vb.index
              (vb.word (codes "LBound") suffix.Absent) (vb.next_arg None false (vb.given (vb.member (vb.word (codes "b") suffix.Absent)
              (codes "T"))) vb.no_args)) ∷ []) false);
        })) (vb.next_node
        (vb.line (record {
          place = (record { file = 1; line = 26 });
          text = (codes "Set o = New Node");
          form = (vb.set (vb.word
              (codes "o") suffix.Absent) (vb.new_object (codes "Node")));
        })) (vb.next_node
        (vb.line (record {
          place = (record { file = 1; line = 27 });
          text = (codes "o.T(1) = 4");
          form = (vb.assign (vb.index
              (vb.member (vb.word (codes "o") suffix.Absent) (codes "T")) (vb.next_arg None false (vb.given (vb.lit (literal.Int (pos
              1) false))) vb.no_args)) (vb.lit (literal.Int (pos 4) false)));
        })) (vb.next_node
        (vb.line (record {
          place = (record { file = 1; line = 28 });
          text = (codes "Inc o.T(1)");
          form = (vb.invoke (vb.word
              (codes "Inc") suffix.Absent) (vb.next_arg None false (vb.given (vb.index (vb.member (vb.word (codes "o") suffix.Absent)
              (codes "T")) (vb.next_arg None false (vb.given (vb.lit (literal.Int (pos 1) false))) vb.no_args))) vb.no_args));
        })) (vb.next_node
        (vb.line (record {
          place = (record { file = 1; line = 29 });
          text = (codes "Set o.Child = New Node");
          form = (vb.set
              (vb.member (vb.word (codes "o") suffix.Absent) (codes "Child")) (vb.new_object (codes "Node")));
        })) (vb.next_node
        (vb.line (record {
          place = (record { file = 1; line = 30 });
          text = (codes "o.Child.T(2) = o.T(1) + 1");
          form = (vb.assign
              (vb.index (vb.member (vb.member (vb.word (codes "o") suffix.Absent) (codes "Child")) (codes "T")) (vb.next_arg None false
              (vb.given (vb.lit (literal.Int (pos 2) false))) vb.no_args)) (vb.binary bin.Add (vb.index (vb.member (vb.word (codes "o")
              suffix.Absent) (codes "T")) (vb.next_arg None false (vb.given (vb.lit (literal.Int (pos 1) false))) vb.no_args)) (vb.lit
              (literal.Int (pos 1) false))));
        })) (vb.next_node
        (vb.line (record {
          place = (record { file = 1; line = 31 });
          text = (codes "Inc o.Child.T(2)");
          form = (vb.invoke (vb.word
              (codes "Inc") suffix.Absent) (vb.next_arg None false (vb.given (vb.index (vb.member (vb.member (vb.word (codes "o") suffix.Absent)
              (codes "Child")) (codes "T")) (vb.next_arg None false (vb.given (vb.lit (literal.Int (pos 2) false))) vb.no_args))) vb.no_args));
        })) (vb.next_node
        (vb.line (record {
          place = (record { file = 1; line = 32 });
          text = (codes "Debug.Print o.T(1); o.Child.T(2); UBound(o.T)");
          form = (vb.debug_print ((vb.index (vb.member (vb.word (codes "o") suffix.Absent) (codes "T")) (vb.next_arg None false
              (vb.given (vb.lit (literal.Int (pos 1) false))) vb.no_args)) ∷ (vb.index (vb.member (vb.member (vb.word (codes "o") suffix.Absent)
              (codes "Child")) (codes "T")) (vb.next_arg None false (vb.given (vb.lit (literal.Int (pos 2) false))) vb.no_args)) ∷ (vb.index
              (vb.word (codes "UBound") suffix.Absent) (vb.next_arg None false (vb.given (vb.member (vb.word (codes "o") suffix.Absent)
              (codes "T"))) vb.no_args)) ∷ []) false);
        })) (vb.next_node
        (vb.line (record {
          place = (record { file = 1; line = 33 });
          text = (codes "o.Fill");
          form = (vb.invoke (vb.member (vb.word
              (codes "o") suffix.Absent) (codes "Fill")) vb.no_args);
        })) (vb.next_node
        (vb.line (record {
          place = (record { file = 1; line = 34 });
          text = (codes "Debug.Print o.T(3); o.Child.T(3)");
          form
              = (vb.debug_print ((vb.index (vb.member (vb.word (codes "o") suffix.Absent) (codes "T")) (vb.next_arg None false (vb.given
              (vb.lit (literal.Int (pos 3) false))) vb.no_args)) ∷ (vb.index (vb.member (vb.member (vb.word (codes "o") suffix.Absent)
              (codes "Child")) (codes "T")) (vb.next_arg None false (vb.given (vb.lit (literal.Int (pos 3) false))) vb.no_args)) ∷ [])
              false);
        })) (vb.next_node
        (vb.line (record {
          place = (record { file = 1; line = 35 });
          text = (codes "Debug.Print o.Self.T(3); o.Self.Child.T(2)");
          form = (vb.debug_print ((vb.index (vb.member (vb.member (vb.word (codes "o") suffix.Absent) (codes "Self")) (codes "T"))
              (vb.next_arg None false (vb.given (vb.lit (literal.Int (pos 3) false))) vb.no_args)) ∷ (vb.index (vb.member (vb.member
              (vb.member (vb.word (codes "o") suffix.Absent) (codes "Self")) (codes "Child")) (codes "T")) (vb.next_arg None false (vb.given
              (vb.lit (literal.Int (pos 2) false))) vb.no_args)) ∷ []) false);
        })) vb.no_nodes)))))))))))))))))))) (record {
          place =
              (record { file = 1; line = 36 });
          text = (codes "End Sub");
          form = vb.end_sub;
        })) ∷ []);
    comments = ([]);
  }) ∷ (record {
    file = 2;
    name = (codes "Node");
    class = true;
    members = (
        (vb.alone (record {
          place = (record { file = 2; line = 4 });
          text = (codes "Public T(3) As Long");
          form = (vb.variables
              var.Public ((record {
                name = (codes "T");
                suffix = suffix.Absent;
                bounds = (Some ((record {
                  lower = None;
                  upper = (vb.lit
                      (literal.Int (pos 3) false));
                }) ∷ []));
                auto = false;
                ty = (Some (vb.named (codes "Long")));
              }) ∷ []));
        })) ∷
        (vb.alone (record {
          place = (record { file = 2; line = 5 });
          text = (codes "Public Child As Node");
          form = (vb.variables
              var.Public ((record {
                name = (codes "Child");
                suffix = suffix.Absent;
                bounds = None;
                auto = false;
                ty = (Some (vb.named
                    (codes "Node")));
              }) ∷ []));
        })) ∷
        (vb.proc (record {
          place = (record { file = 2; line = 7 });
          text = (codes "Public Sub Fill()");
          form = (vb.sub_head (record
              { visibility = (Some visible.Public); name = (codes "Fill"); suffix = suffix.Absent; params = ([]) }));
        }) (vb.next_node
        (vb.line (record {
          place = (record { file = 2; line = 8 });
          text = (codes "T(3) = 9");
          form = (vb.assign (vb.index (vb.word
              (codes "T") suffix.Absent) (vb.next_arg None false (vb.given (vb.lit (literal.Int (pos 3) false))) vb.no_args)) (vb.lit
              (literal.Int (pos 9) false)));
        })) (vb.next_node
        (vb.line (record {
          place = (record { file = 2; line = 9 });
          text = (codes "Me.T(3) = Me.T(3) + T(3)");
          form = (vb.assign
              (vb.index (vb.member vb.me (codes "T")) (vb.next_arg None false (vb.given (vb.lit (literal.Int (pos 3) false))) vb.no_args))
              (vb.binary bin.Add (vb.index (vb.member vb.me (codes "T")) (vb.next_arg None false (vb.given (vb.lit (literal.Int (pos
              3) false))) vb.no_args)) (vb.index (vb.word (codes "T") suffix.Absent) (vb.next_arg None false (vb.given (vb.lit (literal.Int
              (pos 3) false))) vb.no_args))));
        })) (vb.next_node
        (vb.line (record {
          place = (record { file = 2; line = 10 });
          text = (codes "Me.Child.T(3) = 1");
          form = (vb.assign (vb.index
              (vb.member (vb.member vb.me (codes "Child")) (codes "T")) (vb.next_arg None false (vb.given (vb.lit (literal.Int (pos
              3) false))) vb.no_args)) (vb.lit (literal.Int (pos 1) false)));
        })) vb.no_nodes))) (record {
          place = (record {
            file = 2;
            line = 11;
          });
          text = (codes "End Sub");
          form = vb.end_sub;
        })) ∷
        (vb.proc (record {
          place = (record { file = 2; line = 13 });
          text = (codes "Public Function Self() As Node");
          form = (vb.function_head
              (record { visibility = (Some visible.Public); name = (codes "Self"); suffix = suffix.Absent; params = ([]) }) (Some (record
              { ty = (vb.named (codes "Node")); array = false })));
        }) (vb.next_node
        (vb.line (record {
          place = (record { file = 2; line = 14 });
          text = (codes "Set Self = Me");
          form = (vb.set (vb.word
              (codes "Self") suffix.Absent) vb.me);
        })) vb.no_nodes) (record {
          place = (record { file = 2; line = 15 });
          text = (codes
              "End Function");
          form = vb.end_function;
        })) ∷ []);
    comments = ([]);
  }) ∷ []);
})

abbrev pub declarations : bound.Declarations
declarations = (record {
  project = project;
  names = (
      (record { name = (codes "Box"); scope = (scope.Private 1); named = (named.Type (record { 0 = 0 })) }) ∷
      (record { name = (codes "Shelf"); scope = (scope.Private 1); named = (named.Type (record { 0 = 1 })) }) ∷
      (record { name = (codes "s"); scope = (scope.Private 1); named = (named.Var (record { 0 = 4 })) }) ∷
      (record { name = (codes "Inc"); scope = (scope.Public 1); named = (named.Proc (record { 0 = 0 })) }) ∷
      (record { name = (codes "n"); scope = (scope.Local (record { 0 = 0 })); named = (named.Var (record { 0 = 5 })) }) ∷
      (record { name = (codes "Main"); scope = (scope.Public 1); named = (named.Proc (record { 0 = 1 })) }) ∷
      (record { name = (codes "b"); scope = (scope.Local (record { 0 = 1 })); named = (named.Var (record { 0 = 6 })) }) ∷
      (record { name = (codes "o"); scope = (scope.Local (record { 0 = 1 })); named = (named.Var (record { 0 = 7 })) }) ∷
      (record { name = (codes "T"); scope = (scope.Public 2); named = (named.Var (record { 0 = 8 })) }) ∷
      (record { name = (codes "Child"); scope = (scope.Public 2); named = (named.Var (record { 0 = 9 })) }) ∷
      (record { name = (codes "Fill"); scope = (scope.Public 2); named = (named.Proc (record { 0 = 2 })) }) ∷
      (record { name = (codes "Self"); scope = (scope.Public 2); named = (named.Proc (record { 0 = 3 })) }) ∷
      (record { name = (codes "Self"); scope = (scope.Local (record { 0 = 3 })); named = (named.Var (record { 0 = 10 })) })
      ∷ []);
  vars = (
      (record {
        name = (codes "N");
        place = (record { file = 1; line = 2 });
        statement = 1;
        owner = (owner.Field (record {
          0
              = 0;
        }));
        ty = types.long;
        named = types.long;
        qualified = false;
        lettered = None;
        bounds = ([]);
        auto = false;
        preset
            = None;
      }) ∷
      (record {
        name = (codes "T");
        place = (record { file = 1; line = 3 });
        statement = 2;
        owner = (owner.Field (record {
          0
              = 0;
        }));
        ty = (types.array types.long 1);
        named = (types.array types.long 1);
        qualified = false;
        lettered = None;
        bounds
            = (((pos 1), (pos 3)) ∷ []);
        auto = false;
        preset = None;
      }) ∷
      (record {
        name = (codes "F");
        place = (record { file = 1; line = 4 });
        statement = 3;
        owner = (owner.Field (record {
          0
              = 0;
        }));
        ty = (types.array types.str 0);
        named = (types.array types.str 0);
        qualified = false;
        lettered = None;
        bounds
            = ([]);
        auto = false;
        preset = None;
      }) ∷
      (record {
        name = (codes "B");
        place = (record { file = 1; line = 7 });
        statement = 6;
        owner = (owner.Field (record {
          0
              = 1;
        }));
        ty = (types.user 0);
        named = (types.user 0);
        qualified = false;
        lettered = None;
        bounds = ([]);
        auto = false;
        preset = None;
      }) ∷
      (record {
        name = (codes "s");
        place = (record { file = 1; line = 9 });
        statement = 8;
        owner = (owner.Module 1);
        ty = (types.user
            1);
        named = (types.user 1);
        qualified = false;
        lettered = None;
        bounds = ([]);
        auto = false;
        preset = None;
      }) ∷
      (record {
        name = (codes "n");
        place = (record { file = 1; line = 11 });
        statement = 9;
        owner = (owner.Reference (record
            { 0 = 0 }));
        ty = types.long;
        named = types.long;
        qualified = false;
        lettered = None;
        bounds = ([]);
        auto = false;
        preset
            = None;
      }) ∷
      (record {
        name = (codes "b");
        place = (record { file = 1; line = 16 });
        statement = 13;
        owner = (owner.Local (record {
          0 = 1;
        }));
        ty = (types.user 0);
        named = (types.user 0);
        qualified = false;
        lettered = None;
        bounds = ([]);
        auto = false;
        preset = None;
      }) ∷
      (record {
        name = (codes "o");
        place = (record { file = 1; line = 16 });
        statement = 13;
        owner = (owner.Local (record {
          0 = 1;
        }));
        ty = (types.class 0);
        named = (types.class 0);
        qualified = false;
        lettered = None;
        bounds = ([]);
        auto = false;
        preset = None;
      }) ∷
      (record {
        name = (codes "T");
        place = (record { file = 2; line = 4 });
        statement = 0;
        owner = (owner.Module 2);
        ty = (types.array
            types.long 1);
        named = (types.array types.long 1);
        qualified = false;
        lettered = None;
        bounds = (((pos 0), (pos 3)) ∷
            []);
        auto = false;
        preset = None;
      }) ∷
      (record {
        name = (codes "Child");
        place = (record { file = 2; line = 5 });
        statement = 1;
        owner = (owner.Module 2);
        ty
            = (types.class 0);
        named = (types.class 0);
        qualified = false;
        lettered = None;
        bounds = ([]);
        auto = false;
        preset =
            None;
      }) ∷
      (record {
        name = (codes "Self");
        place = (record { file = 2; line = 13 });
        statement = 7;
        owner = (owner.Answer (record
            { 0 = 3 }));
        ty = (types.class 0);
        named = (types.class 0);
        qualified = false;
        lettered = None;
        bounds = ([]);
        auto =
            false;
        preset = None;
      }) ∷ []);
  consts = ([]);
  procs = (
      (record {
        name = (codes "Inc");
        place = (record { file = 1; line = 11 });
        module_number = 1;
        kind = kind.Sub;
        visibility
            = visible.Public;
        params = ((record { 0 = 5 }) ∷ []);
        result = types.nothing;
        answer = None;
        first = (record { 0 = 0 });
      }) ∷
      (record {
        name = (codes "Main");
        place = (record { file = 1; line = 15 });
        module_number = 1;
        kind = kind.Sub;
        visibility
            = visible.Public;
        params = ([]);
        result = types.nothing;
        answer = None;
        first = (record { 0 = 1 });
      }) ∷
      (record {
        name = (codes "Fill");
        place = (record { file = 2; line = 7 });
        module_number = 2;
        kind = kind.Sub;
        visibility
            = visible.Public;
        params = ([]);
        result = types.nothing;
        answer = None;
        first = (record { 0 = 2 });
      }) ∷
      (record {
        name = (codes "Self");
        place = (record { file = 2; line = 13 });
        module_number = 2;
        kind = kind.Function;
        visibility
            = visible.Public;
        params = ([]);
        result = (types.class 0);
        answer = (Some (record { 0 = 10 }));
        first = (record {
          0 =
              3;
        });
      }) ∷ []);
  types = (
      (record {
        name = (codes "Box");
        place = (record { file = 1; line = 1 });
        «module» = 1;
        fields = ((record { 0 = 0 }) ∷
            (record { 0 = 1 }) ∷ (record { 0 = 2 }) ∷ []);
      }) ∷
      (record {
        name = (codes "Shelf");
        place = (record { file = 1; line = 6 });
        «module» = 1;
        fields = ((record { 0 = 3 })
            ∷ []);
      }) ∷ []);
  enums = ([]);
  defaults = (None ∷ []);
})

abbrev pub body_0 : List bound.Line
body_0 = (
    (record {
      source = (record {
        place = (record { file = 1; line = 12 });
        text = (codes "n = n + 1");
        form = (vb.assign (vb.word
            (codes "n") suffix.Absent) (vb.binary bin.Add (vb.word (codes "n") suffix.Absent) (vb.lit (literal.Int (pos 1) false))));
      });
      bindings = (record {
        exprs = ((bound.typed types.long (bound.variable (record { 0 = 5 }) false)) ∷ (bound.typed types.long
            (bound.binary bin.Add (bound.typed types.long (bound.variable (record { 0 = 5 }) false)) (bound.typed types.long (bound.convert
            types.long (bound.typed types.integer (bound.constant (value.Int (pos 1)) origin.Literal)))))) ∷ []);
        rules = (record
            { bits = 0 });
        mentions = ((mention.Var (record { 0 = 5 })) ∷ (mention.Var (record { 0 = 5 })) ∷ []);
      });
    }) ∷ [])

abbrev pub body_1 : List bound.Line
body_1 = (
    (record {
      source = (record {
        place = (record { file = 1; line = 17 });
        text = (codes "b.T(1) = 5");
        form = (vb.assign
            (vb.index (vb.member (vb.word (codes "b") suffix.Absent) (codes "T")) (vb.next_arg None false (vb.given (vb.lit (literal.Int
            (pos 1) false))) vb.no_args)) (vb.lit (literal.Int (pos 5) false)));
      });
      bindings = (record {
        exprs = ((bound.typed types.long
            (bound.element (bound.typed (types.array types.long 1) (bound.field (bound.typed (types.user 0) (bound.variable (record
            { 0 = 6 }) false)) 1)) (bound.next_expr (bound.typed types.long (bound.convert types.long (bound.typed types.integer (bound.constant
            (value.Int (pos 1)) origin.Literal)))) bound.no_exprs))) ∷ (bound.typed types.long (bound.convert types.long (bound.typed
            types.integer (bound.constant (value.Int (pos 5)) origin.Literal)))) ∷ []);
        rules = (record { bits = 0 });
        mentions =
            ((mention.Var (record { 0 = 1 })) ∷ (mention.Var (record { 0 = 6 })) ∷ []);
      });
    }) ∷
    (record {
      source = (record {
        place = (record { file = 1; line = 18 });
        text = (codes "b.T(2) = b.T(1) + 1");
        form = (vb.assign
            (vb.index (vb.member (vb.word (codes "b") suffix.Absent) (codes "T")) (vb.next_arg None false (vb.given (vb.lit (literal.Int
            (pos 2) false))) vb.no_args)) (vb.binary bin.Add (vb.index (vb.member (vb.word (codes "b") suffix.Absent) (codes "T"))
            (vb.next_arg None false (vb.given (vb.lit (literal.Int (pos 1) false))) vb.no_args)) (vb.lit (literal.Int (pos 1) false))));
      });
      bindings = (record {
        exprs = ((bound.typed types.long (bound.element (bound.typed (types.array types.long 1) (bound.field
            (bound.typed (types.user 0) (bound.variable (record { 0 = 6 }) false)) 1)) (bound.next_expr (bound.typed types.long (bound.convert
            types.long (bound.typed types.integer (bound.constant (value.Int (pos 2)) origin.Literal)))) bound.no_exprs))) ∷ (bound.typed
            types.long (bound.binary bin.Add (bound.typed types.long (bound.element (bound.typed (types.array types.long 1) (bound.field
            (bound.typed (types.user 0) (bound.variable (record { 0 = 6 }) false)) 1)) (bound.next_expr (bound.typed types.long (bound.convert
            types.long (bound.typed types.integer (bound.constant (value.Int (pos 1)) origin.Literal)))) bound.no_exprs))) (bound.typed
            types.long (bound.convert types.long (bound.typed types.integer (bound.constant (value.Int (pos 1)) origin.Literal))))))
            ∷ []);
        rules = (record { bits = 0 });
        mentions = ((mention.Var (record { 0 = 1 })) ∷ (mention.Var (record { 0 = 6 }))
            ∷ (mention.Var (record { 0 = 1 })) ∷ (mention.Var (record { 0 = 6 })) ∷ []);
      });
    }) ∷
    (record {
      source = (record {
        place = (record { file = 1; line = 19 });
        text = (codes "ReDim b.F(2)");
        form = (vb.redim
            false ((record {
              array = (vb.member (vb.word (codes "b") suffix.Absent) (codes "F"));
              bounds = ((record {
                lower = None;
                upper = (vb.lit (literal.Int (pos 2) false));
              }) ∷ []);
              ty = None;
            }) ∷ []));
      });
      bindings = (record {
        exprs = ((bound.typed
            (types.array types.str 0) (bound.field (bound.typed (types.user 0) (bound.variable (record { 0 = 6 }) false)) 2)) ∷ (bound.typed
            types.long (bound.convert types.long (bound.typed types.integer (bound.constant (value.Int (pos 2)) origin.Literal))))
            ∷ []);
        rules = (record { bits = 0 });
        mentions = ((mention.Var (record { 0 = 2 })) ∷ (mention.Var (record { 0 = 6 }))
            ∷ []);
      });
    }) ∷
    (record {
      source = (record {
        place = (record { file = 1; line = 20 });
        text = (98 ∷ 46 ∷ 70 ∷ 40 ∷ 49 ∷ 41 ∷ 32 ∷ 61 ∷
            32 ∷ 34 ∷ 120 ∷ 34 ∷ []);
        form = (vb.assign (vb.index (vb.member (vb.word (codes "b") suffix.Absent) (codes "F")) (vb.next_arg
            None false (vb.given (vb.lit (literal.Int (pos 1) false))) vb.no_args)) (vb.lit (literal.Str (codes "x"))));
      });
      bindings
          = (record {
            exprs = ((bound.typed types.str (bound.element (bound.typed (types.array types.str 0) (bound.field (bound.typed
                (types.user 0) (bound.variable (record { 0 = 6 }) false)) 2)) (bound.next_expr (bound.typed types.long (bound.convert
                types.long (bound.typed types.integer (bound.constant (value.Int (pos 1)) origin.Literal)))) bound.no_exprs))) ∷ (bound.typed
                types.str (bound.constant (value.Str (codes "x")) origin.Literal)) ∷ []);
            rules = (record { bits = 0 });
            mentions = ((mention.Var
                (record { 0 = 2 })) ∷ (mention.Var (record { 0 = 6 })) ∷ []);
          });
    }) ∷
    (record {
      source = (record {
        place = (record { file = 1; line = 21 });
        text = (codes "Inc b.T(2)");
        form = (vb.invoke
            (vb.word (codes "Inc") suffix.Absent) (vb.next_arg None false (vb.given (vb.index (vb.member (vb.word (codes "b") suffix.Absent)
            (codes "T")) (vb.next_arg None false (vb.given (vb.lit (literal.Int (pos 2) false))) vb.no_args))) vb.no_args));
      });
      bindings
          = (record {
            exprs = ((bound.typed types.nothing (bound.call (record { 0 = 0 }) false bound.no_object (bound.next_passed
                (bound.by_reference (bound.typed types.long (bound.element (bound.typed (types.array types.long 1) (bound.field (bound.typed
                (types.user 0) (bound.variable (record { 0 = 6 }) false)) 1)) (bound.next_expr (bound.typed types.long (bound.convert
                types.long (bound.typed types.integer (bound.constant (value.Int (pos 2)) origin.Literal)))) bound.no_exprs)))) bound.no_passed)))
                ∷ []);
            rules = (record { bits = 0 });
            mentions = ((mention.Proc (record { 0 = 0 })) ∷ (mention.Var (record { 0 = 1 }))
                ∷ (mention.Var (record { 0 = 6 })) ∷ []);
          });
    }) ∷
    (record {
      source = (record {
        place = (record { file = 1; line = 22 });
        text = (codes "s.B.T(3) = 7");
        form = (vb.assign
            (vb.index (vb.member (vb.member (vb.word (codes "s") suffix.Absent) (codes "B")) (codes "T")) (vb.next_arg None false
            (vb.given (vb.lit (literal.Int (pos 3) false))) vb.no_args)) (vb.lit (literal.Int (pos 7) false)));
      });
      bindings = (record {
        exprs = ((bound.typed types.long (bound.element (bound.typed (types.array types.long 1) (bound.field (bound.typed (types.user
            0) (bound.field (bound.typed (types.user 1) (bound.variable (record { 0 = 4 }) false)) 0)) 1)) (bound.next_expr (bound.typed
            types.long (bound.convert types.long (bound.typed types.integer (bound.constant (value.Int (pos 3)) origin.Literal))))
            bound.no_exprs))) ∷ (bound.typed types.long (bound.convert types.long (bound.typed types.integer (bound.constant (value.Int
            (pos 7)) origin.Literal)))) ∷ []);
        rules = (record { bits = 0 });
        mentions = ((mention.Var (record { 0 = 1 })) ∷ (mention.Var
            (record { 0 = 3 })) ∷ (mention.Var (record { 0 = 4 })) ∷ []);
      });
    }) ∷
    (record {
      source = (record {
        place = (record { file = 1; line = 23 });
        text = (codes "Inc s.B.T(3)");
        form = (vb.invoke
            (vb.word (codes "Inc") suffix.Absent) (vb.next_arg None false (vb.given (vb.index (vb.member (vb.member (vb.word (codes
            "s") suffix.Absent) (codes "B")) (codes "T")) (vb.next_arg None false (vb.given (vb.lit (literal.Int (pos 3) false)))
            vb.no_args))) vb.no_args));
      });
      bindings = (record {
        exprs = ((bound.typed types.nothing (bound.call (record { 0 = 0 })
            false bound.no_object (bound.next_passed (bound.by_reference (bound.typed types.long (bound.element (bound.typed (types.array
            types.long 1) (bound.field (bound.typed (types.user 0) (bound.field (bound.typed (types.user 1) (bound.variable (record
            { 0 = 4 }) false)) 0)) 1)) (bound.next_expr (bound.typed types.long (bound.convert types.long (bound.typed types.integer
            (bound.constant (value.Int (pos 3)) origin.Literal)))) bound.no_exprs)))) bound.no_passed))) ∷ []);
        rules = (record {
          bits = 0;
        });
        mentions = ((mention.Proc (record { 0 = 0 })) ∷ (mention.Var (record { 0 = 1 })) ∷ (mention.Var (record {
          0 = 3;
        })) ∷ (mention.Var (record { 0 = 4 })) ∷ []);
      });
    }) ∷
    (record {
      source = (record {
        place = (record { file = 1; line = 24 });
        text = (codes "Inc Main1.s.B.T(3)");
        form = (vb.invoke
            (vb.word (codes "Inc") suffix.Absent) (vb.next_arg None false (vb.given (vb.index (vb.member (vb.member (vb.member (vb.word
            (codes "Main1") suffix.Absent) (codes "s")) (codes "B")) (codes "T")) (vb.next_arg None false (vb.given (vb.lit (literal.Int
            (pos 3) false))) vb.no_args))) vb.no_args));
      });
      bindings = (record {
        exprs = ((bound.typed types.nothing (bound.call (record
            { 0 = 0 }) false bound.no_object (bound.next_passed (bound.by_reference (bound.typed types.long (bound.element (bound.typed
            (types.array types.long 1) (bound.field (bound.typed (types.user 0) (bound.field (bound.typed (types.user 1) (bound.variable
            (record { 0 = 4 }) true)) 0)) 1)) (bound.next_expr (bound.typed types.long (bound.convert types.long (bound.typed types.integer
            (bound.constant (value.Int (pos 3)) origin.Literal)))) bound.no_exprs)))) bound.no_passed))) ∷ []);
        rules = (record {
          bits = 0;
        });
        mentions = ((mention.Proc (record { 0 = 0 })) ∷ (mention.Var (record { 0 = 1 })) ∷ (mention.Var (record {
          0 = 3;
        })) ∷ (mention.Var (record { 0 = 4 })) ∷ []);
      });
    }) ∷
    (record {
      source = (record {
        place = (record { file = 1; line = 25 });
        text = (codes "Debug.Print b.T(1); b.T(2); b.F(1); UBound(b.F); s.B.T(3); LBound(b.T)");
        form = (vb.debug_print ((vb.index (vb.member (vb.word (codes "b") suffix.Absent) (codes "T")) (vb.next_arg None false
            (vb.given (vb.lit (literal.Int (pos 1) false))) vb.no_args)) ∷ (vb.index (vb.member (vb.word (codes "b") suffix.Absent)
            (codes "T")) (vb.next_arg None false (vb.given (vb.lit (literal.Int (pos 2) false))) vb.no_args)) ∷ (vb.index (vb.member
            (vb.word (codes "b") suffix.Absent) (codes "F")) (vb.next_arg None false (vb.given (vb.lit (literal.Int (pos 1) false)))
            vb.no_args)) ∷ (vb.index (vb.word (codes "UBound") suffix.Absent) (vb.next_arg None false (vb.given (vb.member (vb.word
            (codes "b") suffix.Absent) (codes "F"))) vb.no_args)) ∷ (vb.index (vb.member (vb.member (vb.word (codes "s") suffix.Absent)
            (codes "B")) (codes "T")) (vb.next_arg None false (vb.given (vb.lit (literal.Int (pos 3) false))) vb.no_args)) ∷ (vb.index
            (vb.word (codes "LBound") suffix.Absent) (vb.next_arg None false (vb.given (vb.member (vb.word (codes "b") suffix.Absent)
            (codes "T"))) vb.no_args)) ∷ []) false);
      });
      bindings = (record {
        exprs = ((bound.typed types.long (bound.element (bound.typed
            (types.array types.long 1) (bound.field (bound.typed (types.user 0) (bound.variable (record { 0 = 6 }) false)) 1)) (bound.next_expr
            (bound.typed types.long (bound.convert types.long (bound.typed types.integer (bound.constant (value.Int (pos 1)) origin.Literal))))
            bound.no_exprs))) ∷ (bound.typed types.long (bound.element (bound.typed (types.array types.long 1) (bound.field (bound.typed
            (types.user 0) (bound.variable (record { 0 = 6 }) false)) 1)) (bound.next_expr (bound.typed types.long (bound.convert
            types.long (bound.typed types.integer (bound.constant (value.Int (pos 2)) origin.Literal)))) bound.no_exprs))) ∷ (bound.typed
            types.str (bound.element (bound.typed (types.array types.str 0) (bound.field (bound.typed (types.user 0) (bound.variable
            (record { 0 = 6 }) false)) 2)) (bound.next_expr (bound.typed types.long (bound.convert types.long (bound.typed types.integer
            (bound.constant (value.Int (pos 1)) origin.Literal)))) bound.no_exprs))) ∷ (bound.typed types.long (bound.library lib.UBound
            (bound.next_expr (bound.typed (types.array types.str 0) (bound.field (bound.typed (types.user 0) (bound.variable (record
            { 0 = 6 }) false)) 2)) bound.no_exprs))) ∷ (bound.typed types.long (bound.element (bound.typed (types.array types.long
            1) (bound.field (bound.typed (types.user 0) (bound.field (bound.typed (types.user 1) (bound.variable (record { 0 = 4 })
            false)) 0)) 1)) (bound.next_expr (bound.typed types.long (bound.convert types.long (bound.typed types.integer (bound.constant
            (value.Int (pos 3)) origin.Literal)))) bound.no_exprs))) ∷ (bound.typed types.long (bound.library lib.LBound (bound.next_expr
            (bound.typed (types.array types.long 1) (bound.field (bound.typed (types.user 0) (bound.variable (record { 0 = 6 }) false))
            1)) bound.no_exprs))) ∷ []);
        rules = (record { bits = 0 });
        mentions = ((mention.Var (record { 0 = 1 })) ∷ (mention.Var
            (record { 0 = 6 })) ∷ (mention.Var (record { 0 = 1 })) ∷ (mention.Var (record { 0 = 6 })) ∷ (mention.Var (record {
              0 =
                  2;
            })) ∷ (mention.Var (record { 0 = 6 })) ∷ (mention.Var (record { 0 = 2 })) ∷ (mention.Var (record { 0 = 6 })) ∷ (mention.Var
            (record { 0 = 1 })) ∷ (mention.Var (record { 0 = 3 })) ∷ (mention.Var (record { 0 = 4 })) ∷ (mention.Var (record {
              0 =
                  1;
            })) ∷ (mention.Var (record { 0 = 6 })) ∷ []);
      });
    }) ∷
    (record {
      source = (record {
        place = (record { file = 1; line = 26 });
        text = (codes "Set o = New Node");
        form = (vb.set
            (vb.word (codes "o") suffix.Absent) (vb.new_object (codes "Node")));
      });
      bindings = (record {
        exprs = ((bound.typed (types.class
            0) (bound.variable (record { 0 = 7 }) false)) ∷ (bound.typed (types.class 0) (bound.new_object (record { 0 = 0 }))) ∷
            []);
        rules = (record { bits = 0 });
        mentions = ((mention.Var (record { 0 = 7 })) ∷ (mention.Class (record { 0 = 0 }))
            ∷ []);
      });
    }) ∷
    (record {
      source = (record {
        place = (record { file = 1; line = 27 });
        text = (codes "o.T(1) = 4");
        form = (vb.assign
            (vb.index (vb.member (vb.word (codes "o") suffix.Absent) (codes "T")) (vb.next_arg None false (vb.given (vb.lit (literal.Int
            (pos 1) false))) vb.no_args)) (vb.lit (literal.Int (pos 4) false)));
      });
      bindings = (record {
        exprs = ((bound.typed types.long
            (bound.element (bound.typed (types.array types.long 1) (bound.field (bound.typed (types.class 0) (bound.variable (record
            { 0 = 7 }) false)) 0)) (bound.next_expr (bound.typed types.long (bound.convert types.long (bound.typed types.integer (bound.constant
            (value.Int (pos 1)) origin.Literal)))) bound.no_exprs))) ∷ (bound.typed types.long (bound.convert types.long (bound.typed
            types.integer (bound.constant (value.Int (pos 4)) origin.Literal)))) ∷ []);
        rules = (record { bits = 0 });
        mentions =
            ((mention.Var (record { 0 = 8 })) ∷ (mention.Var (record { 0 = 7 })) ∷ []);
      });
    }) ∷
    (record {
      source = (record {
        place = (record { file = 1; line = 28 });
        text = (codes "Inc o.T(1)");
        form = (vb.invoke
            (vb.word (codes "Inc") suffix.Absent) (vb.next_arg None false (vb.given (vb.index (vb.member (vb.word (codes "o") suffix.Absent)
            (codes "T")) (vb.next_arg None false (vb.given (vb.lit (literal.Int (pos 1) false))) vb.no_args))) vb.no_args));
      });
      bindings
          = (record {
            exprs = ((bound.typed types.nothing (bound.call (record { 0 = 0 }) false bound.no_object (bound.next_passed
                (bound.by_reference (bound.typed types.long (bound.element (bound.typed (types.array types.long 1) (bound.field (bound.typed
                (types.class 0) (bound.variable (record { 0 = 7 }) false)) 0)) (bound.next_expr (bound.typed types.long (bound.convert
                types.long (bound.typed types.integer (bound.constant (value.Int (pos 1)) origin.Literal)))) bound.no_exprs)))) bound.no_passed)))
                ∷ []);
            rules = (record { bits = 0 });
            mentions = ((mention.Proc (record { 0 = 0 })) ∷ (mention.Var (record { 0 = 8 }))
                ∷ (mention.Var (record { 0 = 7 })) ∷ []);
          });
    }) ∷
    (record {
      source = (record {
        place = (record { file = 1; line = 29 });
        text = (codes "Set o.Child = New Node");
        form =
            (vb.set (vb.member (vb.word (codes "o") suffix.Absent) (codes "Child")) (vb.new_object (codes "Node")));
      });
      bindings =
          (record {
            exprs = ((bound.typed (types.class 0) (bound.field (bound.typed (types.class 0) (bound.variable (record {
              0
                  = 7;
            }) false)) 1)) ∷ (bound.typed (types.class 0) (bound.new_object (record { 0 = 0 }))) ∷ []);
            rules = (record {
              bits
                  = 0;
            });
            mentions = ((mention.Var (record { 0 = 9 })) ∷ (mention.Var (record { 0 = 7 })) ∷ (mention.Class (record {
              0 =
                  0;
            })) ∷ []);
          });
    }) ∷
    (record {
      source = (record {
        place = (record { file = 1; line = 30 });
        text = (codes "o.Child.T(2) = o.T(1) + 1");
        form
            = (vb.assign (vb.index (vb.member (vb.member (vb.word (codes "o") suffix.Absent) (codes "Child")) (codes "T")) (vb.next_arg
            None false (vb.given (vb.lit (literal.Int (pos 2) false))) vb.no_args)) (vb.binary bin.Add (vb.index (vb.member (vb.word
            (codes "o") suffix.Absent) (codes "T")) (vb.next_arg None false (vb.given (vb.lit (literal.Int (pos 1) false))) vb.no_args))
            (vb.lit (literal.Int (pos 1) false))));
      });
      bindings = (record {
        exprs = ((bound.typed types.long (bound.element (bound.typed
            (types.array types.long 1) (bound.field (bound.typed (types.class 0) (bound.field (bound.typed (types.class 0) (bound.variable
            (record { 0 = 7 }) false)) 1)) 0)) (bound.next_expr (bound.typed types.long (bound.convert types.long (bound.typed types.integer
            (bound.constant (value.Int (pos 2)) origin.Literal)))) bound.no_exprs))) ∷ (bound.typed types.long (bound.binary bin.Add
            (bound.typed types.long (bound.element (bound.typed (types.array types.long 1) (bound.field (bound.typed (types.class
            0) (bound.variable (record { 0 = 7 }) false)) 0)) (bound.next_expr (bound.typed types.long (bound.convert types.long (bound.typed
            types.integer (bound.constant (value.Int (pos 1)) origin.Literal)))) bound.no_exprs))) (bound.typed types.long (bound.convert
            types.long (bound.typed types.integer (bound.constant (value.Int (pos 1)) origin.Literal)))))) ∷ []);
        rules = (record
            { bits = 0 });
        mentions = ((mention.Var (record { 0 = 8 })) ∷ (mention.Var (record { 0 = 9 })) ∷ (mention.Var (record
            { 0 = 7 })) ∷ (mention.Var (record { 0 = 8 })) ∷ (mention.Var (record { 0 = 7 })) ∷ []);
      });
    }) ∷
    (record {
      source = (record {
        place = (record { file = 1; line = 31 });
        text = (codes "Inc o.Child.T(2)");
        form = (vb.invoke
            (vb.word (codes "Inc") suffix.Absent) (vb.next_arg None false (vb.given (vb.index (vb.member (vb.member (vb.word (codes
            "o") suffix.Absent) (codes "Child")) (codes "T")) (vb.next_arg None false (vb.given (vb.lit (literal.Int (pos 2) false)))
            vb.no_args))) vb.no_args));
      });
      bindings = (record {
        exprs = ((bound.typed types.nothing (bound.call (record { 0 = 0 })
            false bound.no_object (bound.next_passed (bound.by_reference (bound.typed types.long (bound.element (bound.typed (types.array
            types.long 1) (bound.field (bound.typed (types.class 0) (bound.field (bound.typed (types.class 0) (bound.variable (record
            { 0 = 7 }) false)) 1)) 0)) (bound.next_expr (bound.typed types.long (bound.convert types.long (bound.typed types.integer
            (bound.constant (value.Int (pos 2)) origin.Literal)))) bound.no_exprs)))) bound.no_passed))) ∷ []);
        rules = (record {
          bits = 0;
        });
        mentions = ((mention.Proc (record { 0 = 0 })) ∷ (mention.Var (record { 0 = 8 })) ∷ (mention.Var (record {
          0 = 9;
        })) ∷ (mention.Var (record { 0 = 7 })) ∷ []);
      });
    }) ∷
    (record {
      source = (record {
        place = (record { file = 1; line = 32 });
        text = (codes "Debug.Print o.T(1); o.Child.T(2); UBound(o.T)");
        form = (vb.debug_print ((vb.index (vb.member (vb.word (codes "o") suffix.Absent) (codes "T")) (vb.next_arg None false
            (vb.given (vb.lit (literal.Int (pos 1) false))) vb.no_args)) ∷ (vb.index (vb.member (vb.member (vb.word (codes "o") suffix.Absent)
            (codes "Child")) (codes "T")) (vb.next_arg None false (vb.given (vb.lit (literal.Int (pos 2) false))) vb.no_args)) ∷ (vb.index
            (vb.word (codes "UBound") suffix.Absent) (vb.next_arg None false (vb.given (vb.member (vb.word (codes "o") suffix.Absent)
            (codes "T"))) vb.no_args)) ∷ []) false);
      });
      bindings = (record {
        exprs = ((bound.typed types.long (bound.element (bound.typed
            (types.array types.long 1) (bound.field (bound.typed (types.class 0) (bound.variable (record { 0 = 7 }) false)) 0)) (bound.next_expr
            (bound.typed types.long (bound.convert types.long (bound.typed types.integer (bound.constant (value.Int (pos 1)) origin.Literal))))
            bound.no_exprs))) ∷ (bound.typed types.long (bound.element (bound.typed (types.array types.long 1) (bound.field (bound.typed
            (types.class 0) (bound.field (bound.typed (types.class 0) (bound.variable (record { 0 = 7 }) false)) 1)) 0)) (bound.next_expr
            (bound.typed types.long (bound.convert types.long (bound.typed types.integer (bound.constant (value.Int (pos 2)) origin.Literal))))
            bound.no_exprs))) ∷ (bound.typed types.long (bound.library lib.UBound (bound.next_expr (bound.typed (types.array types.long
            1) (bound.field (bound.typed (types.class 0) (bound.variable (record { 0 = 7 }) false)) 0)) bound.no_exprs))) ∷ []);
        rules
            = (record { bits = 0 });
        mentions = ((mention.Var (record { 0 = 8 })) ∷ (mention.Var (record { 0 = 7 })) ∷ (mention.Var
            (record { 0 = 8 })) ∷ (mention.Var (record { 0 = 9 })) ∷ (mention.Var (record { 0 = 7 })) ∷ (mention.Var (record {
              0 =
                  8;
            })) ∷ (mention.Var (record { 0 = 7 })) ∷ []);
      });
    }) ∷
    (record {
      source = (record {
        place = (record { file = 1; line = 33 });
        text = (codes "o.Fill");
        form = (vb.invoke (vb.member
            (vb.word (codes "o") suffix.Absent) (codes "Fill")) vb.no_args);
      });
      bindings = (record {
        exprs = ((bound.typed types.nothing
            (bound.call (record { 0 = 2 }) false (bound.of_object (bound.typed (types.class 0) (bound.variable (record { 0 = 7 })
            false))) bound.no_passed)) ∷ []);
        rules = (record { bits = 0 });
        mentions = ((mention.Proc (record { 0 = 2 })) ∷ (mention.Var
            (record { 0 = 7 })) ∷ []);
      });
    }) ∷
    (record {
      source = (record {
        place = (record { file = 1; line = 34 });
        text = (codes "Debug.Print o.T(3); o.Child.T(3)");
        form = (vb.debug_print ((vb.index (vb.member (vb.word (codes "o") suffix.Absent) (codes "T")) (vb.next_arg None false
            (vb.given (vb.lit (literal.Int (pos 3) false))) vb.no_args)) ∷ (vb.index (vb.member (vb.member (vb.word (codes "o") suffix.Absent)
            (codes "Child")) (codes "T")) (vb.next_arg None false (vb.given (vb.lit (literal.Int (pos 3) false))) vb.no_args)) ∷ [])
            false);
      });
      bindings = (record {
        exprs = ((bound.typed types.long (bound.element (bound.typed (types.array types.long 1)
            (bound.field (bound.typed (types.class 0) (bound.variable (record { 0 = 7 }) false)) 0)) (bound.next_expr (bound.typed
            types.long (bound.convert types.long (bound.typed types.integer (bound.constant (value.Int (pos 3)) origin.Literal))))
            bound.no_exprs))) ∷ (bound.typed types.long (bound.element (bound.typed (types.array types.long 1) (bound.field (bound.typed
            (types.class 0) (bound.field (bound.typed (types.class 0) (bound.variable (record { 0 = 7 }) false)) 1)) 0)) (bound.next_expr
            (bound.typed types.long (bound.convert types.long (bound.typed types.integer (bound.constant (value.Int (pos 3)) origin.Literal))))
            bound.no_exprs))) ∷ []);
        rules = (record { bits = 0 });
        mentions = ((mention.Var (record { 0 = 8 })) ∷ (mention.Var (record
            { 0 = 7 })) ∷ (mention.Var (record { 0 = 8 })) ∷ (mention.Var (record { 0 = 9 })) ∷ (mention.Var (record { 0 = 7 })) ∷
            []);
      });
    }) ∷
    (record {
      source = (record {
        place = (record { file = 1; line = 35 });
        text = (codes "Debug.Print o.Self.T(3); o.Self.Child.T(2)");
        form = (vb.debug_print ((vb.index (vb.member (vb.member (vb.word (codes "o") suffix.Absent) (codes "Self")) (codes "T"))
            (vb.next_arg None false (vb.given (vb.lit (literal.Int (pos 3) false))) vb.no_args)) ∷ (vb.index (vb.member (vb.member
            (vb.member (vb.word (codes "o") suffix.Absent) (codes "Self")) (codes "Child")) (codes "T")) (vb.next_arg None false (vb.given
            (vb.lit (literal.Int (pos 2) false))) vb.no_args)) ∷ []) false);
      });
      bindings = (record {
        exprs = ((bound.typed types.long
            (bound.element (bound.typed (types.array types.long 1) (bound.field (bound.typed (types.class 0) (bound.call (record {
              0 = 3;
            }) false (bound.of_object (bound.typed (types.class 0) (bound.variable (record { 0 = 7 }) false))) bound.no_passed))
            0)) (bound.next_expr (bound.typed types.long (bound.convert types.long (bound.typed types.integer (bound.constant (value.Int
            (pos 3)) origin.Literal)))) bound.no_exprs))) ∷ (bound.typed types.long (bound.element (bound.typed (types.array types.long
            1) (bound.field (bound.typed (types.class 0) (bound.field (bound.typed (types.class 0) (bound.call (record { 0 = 3 })
            false (bound.of_object (bound.typed (types.class 0) (bound.variable (record { 0 = 7 }) false))) bound.no_passed)) 1))
            0)) (bound.next_expr (bound.typed types.long (bound.convert types.long (bound.typed types.integer (bound.constant (value.Int
            (pos 2)) origin.Literal)))) bound.no_exprs))) ∷ []);
        rules = (record { bits = 0 });
        mentions = ((mention.Var (record {
          0 = 8;
        })) ∷ (mention.Proc (record { 0 = 3 })) ∷ (mention.Var (record { 0 = 7 })) ∷ (mention.Var (record { 0 = 8 })) ∷
            (mention.Var (record { 0 = 9 })) ∷ (mention.Proc (record { 0 = 3 })) ∷ (mention.Var (record { 0 = 7 })) ∷ []);
      });
    }) ∷
    [])

abbrev pub body_2 : List bound.Line
body_2 = (
    (record {
      source = (record {
        place = (record { file = 2; line = 8 });
        text = (codes "T(3) = 9");
        form = (vb.assign (vb.index
            (vb.word (codes "T") suffix.Absent) (vb.next_arg None false (vb.given (vb.lit (literal.Int (pos 3) false))) vb.no_args))
            (vb.lit (literal.Int (pos 9) false)));
      });
      bindings = (record {
        exprs = ((bound.typed types.long (bound.element (bound.typed
            (types.array types.long 1) (bound.variable (record { 0 = 8 }) false)) (bound.next_expr (bound.typed types.long (bound.convert
            types.long (bound.typed types.integer (bound.constant (value.Int (pos 3)) origin.Literal)))) bound.no_exprs))) ∷ (bound.typed
            types.long (bound.convert types.long (bound.typed types.integer (bound.constant (value.Int (pos 9)) origin.Literal))))
            ∷ []);
        rules = (record { bits = 0 });
        mentions = ((mention.Var (record { 0 = 8 })) ∷ []);
      });
    }) ∷
    (record {
      source = (record {
        place = (record { file = 2; line = 9 });
        text = (codes "Me.T(3) = Me.T(3) + T(3)");
        form
            = (vb.assign (vb.index (vb.member vb.me (codes "T")) (vb.next_arg None false (vb.given (vb.lit (literal.Int (pos 3) false)))
            vb.no_args)) (vb.binary bin.Add (vb.index (vb.member vb.me (codes "T")) (vb.next_arg None false (vb.given (vb.lit (literal.Int
            (pos 3) false))) vb.no_args)) (vb.index (vb.word (codes "T") suffix.Absent) (vb.next_arg None false (vb.given (vb.lit
            (literal.Int (pos 3) false))) vb.no_args))));
      });
      bindings = (record {
        exprs = ((bound.typed types.long (bound.element
            (bound.typed (types.array types.long 1) (bound.field (bound.typed (types.class 0) bound.me) 0)) (bound.next_expr (bound.typed
            types.long (bound.convert types.long (bound.typed types.integer (bound.constant (value.Int (pos 3)) origin.Literal))))
            bound.no_exprs))) ∷ (bound.typed types.long (bound.binary bin.Add (bound.typed types.long (bound.element (bound.typed
            (types.array types.long 1) (bound.field (bound.typed (types.class 0) bound.me) 0)) (bound.next_expr (bound.typed types.long
            (bound.convert types.long (bound.typed types.integer (bound.constant (value.Int (pos 3)) origin.Literal)))) bound.no_exprs)))
            (bound.typed types.long (bound.element (bound.typed (types.array types.long 1) (bound.variable (record { 0 = 8 }) false))
            (bound.next_expr (bound.typed types.long (bound.convert types.long (bound.typed types.integer (bound.constant (value.Int
            (pos 3)) origin.Literal)))) bound.no_exprs))))) ∷ []);
        rules = (record { bits = 0 });
        mentions = ((mention.Var (record
            { 0 = 8 })) ∷ (mention.Var (record { 0 = 8 })) ∷ (mention.Var (record { 0 = 8 })) ∷ []);
      });
    }) ∷
    (record {
      source = (record {
        place = (record { file = 2; line = 10 });
        text = (codes "Me.Child.T(3) = 1");
        form = (vb.assign
            (vb.index (vb.member (vb.member vb.me (codes "Child")) (codes "T")) (vb.next_arg None false (vb.given (vb.lit (literal.Int
            (pos 3) false))) vb.no_args)) (vb.lit (literal.Int (pos 1) false)));
      });
      bindings = (record {
        exprs = ((bound.typed types.long
            (bound.element (bound.typed (types.array types.long 1) (bound.field (bound.typed (types.class 0) (bound.field (bound.typed
            (types.class 0) bound.me) 1)) 0)) (bound.next_expr (bound.typed types.long (bound.convert types.long (bound.typed types.integer
            (bound.constant (value.Int (pos 3)) origin.Literal)))) bound.no_exprs))) ∷ (bound.typed types.long (bound.convert types.long
            (bound.typed types.integer (bound.constant (value.Int (pos 1)) origin.Literal)))) ∷ []);
        rules = (record { bits = 0 });
        mentions = ((mention.Var (record { 0 = 8 })) ∷ (mention.Var (record { 0 = 9 })) ∷ []);
      });
    }) ∷ [])

abbrev pub body_3 : List bound.Line
body_3 = (
    (record {
      source = (record {
        place = (record { file = 2; line = 14 });
        text = (codes "Set Self = Me");
        form = (vb.set
            (vb.word (codes "Self") suffix.Absent) vb.me);
      });
      bindings = (record {
        exprs = ((bound.typed (types.class 0) (bound.variable
            (record { 0 = 10 }) false)) ∷ (bound.typed (types.class 0) bound.me) ∷ []);
        rules = (record { bits = 0 });
        mentions =
            ((mention.Var (record { 0 = 10 })) ∷ []);
      });
    }) ∷ [])

abbrev pub bodies : List (List bound.Line)
bodies = body_0 ∷ body_1 ∷ body_2 ∷ body_3 ∷ []

abbrev pub program : bound.Program
program = record { declarations = declarations; bodies = bodies }

abbrev pub quiet : List (List Bool)
quiet = ((false ∷ []) ∷ ([]) ∷ ([]) ∷ ([]) ∷ [])

abbrev pub lows : List (VarId × ℤ × ℤ)
lows = (((record { 0 = 1 }), (pos 1), (pos 0)) ∷ ((record { 0 = 2 }), (pos 0), (pos 0)) ∷ (
  (record { 0 = 8 }),
  (pos 0),
  (pos
      0),
) ∷ [])

abbrev pub clean : List Bool
clean = (true ∷ true ∷ true ∷ true ∷ [])

abbrev pub written : net.Project
written = (record {
  library = false;
  main = (Some (codes "Main1"));
  note = None;
  modules = ((record {
    name = (codes "Main1");
    class = false;
    members = (
        (net.structure (record {
          name = (codes "Box");
          fields = ((net.field (codes "N") net_types.integer) ∷ (net.field (codes
              "T") (net_types.array_of net_types.integer 1)) ∷ (net.field (codes "F") (net_types.array_of net_types.str 1)) ∷ []);
        }))
        ∷
        (net.structure (record {
          name = (codes "Shelf");
          fields = ((net.field (codes "B") (net_types.named ((codes "Box") ∷ [])))
              ∷ []);
        })) ∷
        (net.variable net_visible.Private (record {
          name = (codes "s");
          ty = (net_types.named ((codes "Shelf") ∷ []));
          value =
              (Some (net.call_of (net.path ((codes "UpgradeSupport") ∷ (codes "New2") ∷ [])) net.no_exps));
        })) ∷
        (net.proc (record {
          head = (net.sub net_visible.Public (codes "Inc") ((record {
            passing = net_passing.Reference;
            name
                = (codes "n");
            ty = net_types.integer;
          }) ∷ []));
          prologue = ([]);
          lines = (
              (net.assign (net.path ((codes "n") ∷ [])) (net.binary net_bin.Add (net.path ((codes "n") ∷ [])) (net.lit (net.integer
              (pos 1) false)))) ∷ []);
          close = close.EndSub;
        })) ∷
        (net.proc (record {
          head = (net.sub net_visible.Public (codes "Main") ([]));
          prologue = (
              (net.local (record {
                name = (codes "b");
                ty = (net_types.named ((codes "Box") ∷ []));
                value = (Some (net.call_of (net.path
                    ((codes "UpgradeSupport") ∷ (codes "New1") ∷ [])) net.no_exps));
              })) ∷
              (net.local (record { name = (codes "o"); ty = (net_types.named ((codes "Node") ∷ [])); value = None })) ∷ []);
          lines =
              (
              (net.assign (net.call_of (net.path ((codes "b") ∷ (codes "T") ∷ [])) (net.next_exp (net.call_of (net.path ((codes "UpgradeSupport")
              ∷ (codes "At") ∷ [])) (net.next_exp (net.lit (net.integer (pos 1) false)) (net.next_exp (net.lit (net.integer (pos 1)
              false)) net.no_exps))) net.no_exps)) (net.lit (net.integer (pos 5) false))) ∷
              (net.assign (net.call_of (net.path ((codes "b") ∷ (codes "T") ∷ [])) (net.next_exp (net.call_of (net.path ((codes "UpgradeSupport")
              ∷ (codes "At") ∷ [])) (net.next_exp (net.lit (net.integer (pos 2) false)) (net.next_exp (net.lit (net.integer (pos 1)
              false)) net.no_exps))) net.no_exps)) (net.binary net_bin.Add (net.call_of (net.path ((codes "b") ∷ (codes "T") ∷ []))
              (net.next_exp (net.call_of (net.path ((codes "UpgradeSupport") ∷ (codes "At") ∷ [])) (net.next_exp (net.lit (net.integer
              (pos 1) false)) (net.next_exp (net.lit (net.integer (pos 1) false)) net.no_exps))) net.no_exps)) (net.lit (net.integer
              (pos 1) false)))) ∷
              (net.redim false ((record {
                array = (net.path ((codes "b") ∷ (codes "F") ∷ []));
                bounds = (net.next_exp (net.call_of (net.path
                    ((codes "UpgradeSupport") ∷ (codes "Top") ∷ [])) (net.next_exp (net.lit (net.integer (pos 2) false)) (net.next_exp (net.lit
                    (net.integer (pos 0) false)) net.no_exps))) net.no_exps);
              }) ∷ [])) ∷
              (net.assign (net.call_of (net.path ((codes "b") ∷ (codes "F") ∷ [])) (net.next_exp (net.lit (net.integer (pos 1) false))
              net.no_exps)) (net.lit (net.str (codes "x")))) ∷
              (net.call (net.path ((codes "Inc") ∷ [])) (net.next_exp (net.call_of (net.path ((codes "b") ∷ (codes "T") ∷ [])) (net.next_exp
              (net.call_of (net.path ((codes "UpgradeSupport") ∷ (codes "At") ∷ [])) (net.next_exp (net.lit (net.integer (pos 2) false))
              (net.next_exp (net.lit (net.integer (pos 1) false)) net.no_exps))) net.no_exps)) net.no_exps)) ∷
              (net.assign (net.call_of (net.path ((codes "s") ∷ (codes "B") ∷ (codes "T") ∷ [])) (net.next_exp (net.call_of (net.path
              ((codes "UpgradeSupport") ∷ (codes "At") ∷ [])) (net.next_exp (net.lit (net.integer (pos 3) false)) (net.next_exp (net.lit
              (net.integer (pos 1) false)) net.no_exps))) net.no_exps)) (net.lit (net.integer (pos 7) false))) ∷
              (net.call (net.path ((codes "Inc") ∷ [])) (net.next_exp (net.call_of (net.path ((codes "s") ∷ (codes "B") ∷ (codes "T")
              ∷ [])) (net.next_exp (net.call_of (net.path ((codes "UpgradeSupport") ∷ (codes "At") ∷ [])) (net.next_exp (net.lit (net.integer
              (pos 3) false)) (net.next_exp (net.lit (net.integer (pos 1) false)) net.no_exps))) net.no_exps)) net.no_exps)) ∷
              (net.call (net.path ((codes "Inc") ∷ [])) (net.next_exp (net.call_of (net.path ((codes "Main1") ∷ (codes "s") ∷ (codes
              "B") ∷ (codes "T") ∷ [])) (net.next_exp (net.call_of (net.path ((codes "UpgradeSupport") ∷ (codes "At") ∷ [])) (net.next_exp
              (net.lit (net.integer (pos 3) false)) (net.next_exp (net.lit (net.integer (pos 1) false)) net.no_exps))) net.no_exps))
              net.no_exps)) ∷
              (net.call (net.path ((codes "UpgradeSupport") ∷ (codes "PrintLine") ∷ [])) (net.next_exp (net.binary net_bin.Concat (net.binary
              net_bin.Concat (net.binary net_bin.Concat (net.binary net_bin.Concat (net.binary net_bin.Concat (net.call_of (net.path
              ((codes "UpgradeSupport") ∷ (codes "PrintNum") ∷ [])) (net.next_exp (net.cast cast.CDec (net.call_of (net.path ((codes
              "b") ∷ (codes "T") ∷ [])) (net.next_exp (net.call_of (net.path ((codes "UpgradeSupport") ∷ (codes "At") ∷ [])) (net.next_exp
              (net.lit (net.integer (pos 1) false)) (net.next_exp (net.lit (net.integer (pos 1) false)) net.no_exps))) net.no_exps)))
              net.no_exps)) (net.call_of (net.path ((codes "UpgradeSupport") ∷ (codes "PrintNum") ∷ [])) (net.next_exp (net.cast cast.CDec
              (net.call_of (net.path ((codes "b") ∷ (codes "T") ∷ [])) (net.next_exp (net.call_of (net.path ((codes "UpgradeSupport")
              ∷ (codes "At") ∷ [])) (net.next_exp (net.lit (net.integer (pos 2) false)) (net.next_exp (net.lit (net.integer (pos 1)
              false)) net.no_exps))) net.no_exps))) net.no_exps))) (net.call_of (net.path ((codes "b") ∷ (codes "F") ∷ [])) (net.next_exp
              (net.lit (net.integer (pos 1) false)) net.no_exps))) (net.call_of (net.path ((codes "UpgradeSupport") ∷ (codes "PrintNum")
              ∷ [])) (net.next_exp (net.cast cast.CDec (net.call_of (net.path ((codes "UpgradeSupport") ∷ (codes "Hi") ∷ [])) (net.next_exp
              (net.path ((codes "b") ∷ (codes "F") ∷ [])) (net.next_exp (net.lit (net.integer (pos 0) false)) (net.next_exp (net.lit
              (net.integer (pos 0) false)) net.no_exps))))) net.no_exps))) (net.call_of (net.path ((codes "UpgradeSupport") ∷ (codes
              "PrintNum") ∷ [])) (net.next_exp (net.cast cast.CDec (net.call_of (net.path ((codes "s") ∷ (codes "B") ∷ (codes "T") ∷
              [])) (net.next_exp (net.call_of (net.path ((codes "UpgradeSupport") ∷ (codes "At") ∷ [])) (net.next_exp (net.lit (net.integer
              (pos 3) false)) (net.next_exp (net.lit (net.integer (pos 1) false)) net.no_exps))) net.no_exps))) net.no_exps))) (net.call_of
              (net.path ((codes "UpgradeSupport") ∷ (codes "PrintNum") ∷ [])) (net.next_exp (net.cast cast.CDec (net.call_of (net.path
              ((codes "UpgradeSupport") ∷ (codes "Lo") ∷ [])) (net.next_exp (net.path ((codes "b") ∷ (codes "T") ∷ [])) (net.next_exp
              (net.lit (net.integer (pos 1) false)) net.no_exps)))) net.no_exps))) net.no_exps)) ∷
              (net.assign (net.path ((codes "o") ∷ [])) (net.new_object (net_types.named ((codes "Node") ∷ [])) net.no_exps)) ∷
              (net.assign (net.call_of (net.path ((codes "o") ∷ (codes "T") ∷ [])) (net.next_exp (net.lit (net.integer (pos 1) false))
              net.no_exps)) (net.lit (net.integer (pos 4) false))) ∷
              (net.call (net.path ((codes "Inc") ∷ [])) (net.next_exp (net.call_of (net.path ((codes "o") ∷ (codes "T") ∷ [])) (net.next_exp
              (net.lit (net.integer (pos 1) false)) net.no_exps)) net.no_exps)) ∷
              (net.assign (net.path ((codes "o") ∷ (codes "Child") ∷ [])) (net.new_object (net_types.named ((codes "Node") ∷ [])) net.no_exps))
              ∷
              (net.call (net.path ((codes "UpgradeSupport") ∷ (codes "PutInteger") ∷ [])) (net.next_exp (net.binary net_bin.Add (net.call_of
              (net.path ((codes "o") ∷ (codes "T") ∷ [])) (net.next_exp (net.lit (net.integer (pos 1) false)) net.no_exps)) (net.lit
              (net.integer (pos 1) false))) (net.next_exp (net.call_of (net.path ((codes "o") ∷ (codes "Child") ∷ (codes "T") ∷ []))
              (net.next_exp (net.lit (net.integer (pos 2) false)) net.no_exps)) net.no_exps))) ∷
              (net.call (net.path ((codes "Inc") ∷ [])) (net.next_exp (net.call_of (net.path ((codes "o") ∷ (codes "Child") ∷ (codes
              "T") ∷ [])) (net.next_exp (net.lit (net.integer (pos 2) false)) net.no_exps)) net.no_exps)) ∷
              (net.call (net.path ((codes "UpgradeSupport") ∷ (codes "PrintLine") ∷ [])) (net.next_exp (net.binary net_bin.Concat (net.binary
              net_bin.Concat (net.call_of (net.path ((codes "UpgradeSupport") ∷ (codes "PrintNum") ∷ [])) (net.next_exp (net.cast cast.CDec
              (net.call_of (net.path ((codes "o") ∷ (codes "T") ∷ [])) (net.next_exp (net.lit (net.integer (pos 1) false)) net.no_exps)))
              net.no_exps)) (net.call_of (net.path ((codes "UpgradeSupport") ∷ (codes "PrintNum") ∷ [])) (net.next_exp (net.cast cast.CDec
              (net.call_of (net.path ((codes "o") ∷ (codes "Child") ∷ (codes "T") ∷ [])) (net.next_exp (net.lit (net.integer (pos 2)
              false)) net.no_exps))) net.no_exps))) (net.call_of (net.path ((codes "UpgradeSupport") ∷ (codes "PrintNum") ∷ [])) (net.next_exp
              (net.cast cast.CDec (net.call_of (net.path ((codes "UpgradeSupport") ∷ (codes "Hi") ∷ [])) (net.next_exp (net.path ((codes
              "o") ∷ (codes "T") ∷ [])) (net.next_exp (net.lit (net.integer (pos 0) false)) (net.next_exp (net.lit (net.integer (pos
              0) false)) net.no_exps))))) net.no_exps))) net.no_exps)) ∷
              (net.call (net.path ((codes "o") ∷ (codes "Fill") ∷ [])) net.no_exps) ∷
              (net.call (net.path ((codes "UpgradeSupport") ∷ (codes "PrintLine") ∷ [])) (net.next_exp (net.binary net_bin.Concat (net.call_of
              (net.path ((codes "UpgradeSupport") ∷ (codes "PrintNum") ∷ [])) (net.next_exp (net.cast cast.CDec (net.call_of (net.path
              ((codes "o") ∷ (codes "T") ∷ [])) (net.next_exp (net.lit (net.integer (pos 3) false)) net.no_exps))) net.no_exps)) (net.call_of
              (net.path ((codes "UpgradeSupport") ∷ (codes "PrintNum") ∷ [])) (net.next_exp (net.cast cast.CDec (net.call_of (net.path
              ((codes "o") ∷ (codes "Child") ∷ (codes "T") ∷ [])) (net.next_exp (net.lit (net.integer (pos 3) false)) net.no_exps)))
              net.no_exps))) net.no_exps)) ∷
              (net.call (net.path ((codes "UpgradeSupport") ∷ (codes "PrintLine") ∷ [])) (net.next_exp (net.binary net_bin.Concat (net.call_of
              (net.path ((codes "UpgradeSupport") ∷ (codes "PrintNum") ∷ [])) (net.next_exp (net.cast cast.CDec (net.call_of (net.dot
              (net.call_of (net.path ((codes "o") ∷ (codes "Self") ∷ [])) net.no_exps) (codes "T")) (net.next_exp (net.lit (net.integer
              (pos 3) false)) net.no_exps))) net.no_exps)) (net.call_of (net.path ((codes "UpgradeSupport") ∷ (codes "PrintNum") ∷ []))
              (net.next_exp (net.cast cast.CDec (net.call_of (net.dot (net.dot (net.call_of (net.path ((codes "o") ∷ (codes "Self")
              ∷ [])) net.no_exps) (codes "Child")) (codes "T")) (net.next_exp (net.lit (net.integer (pos 2) false)) net.no_exps))) net.no_exps)))
              net.no_exps)) ∷ []);
          close = close.EndSub;
        })) ∷ []);
  }) ∷ (record {
    name = (codes "Node");
    class = true;
    members = (
        (net.variable net_visible.Public (record {
          name = (codes "T");
          ty = (net_types.array_of net_types.integer 1);
          value =
              (Some (net.new_array net_types.integer (net.next_exp (net.lit (net.integer (pos 3) false)) net.no_exps)));
        })) ∷
        (net.variable net_visible.Public (record {
          name = (codes "Child");
          ty = (net_types.named ((codes "Node") ∷ []));
          value
              = None;
        })) ∷
        (net.proc (record {
          head = (net.sub net_visible.Public (codes "Fill") ([]));
          prologue = ([]);
          lines = (
              (net.assign (net.call_of (net.path ((codes "T") ∷ [])) (net.next_exp (net.lit (net.integer (pos 3) false)) net.no_exps))
              (net.lit (net.integer (pos 9) false))) ∷
              (net.assign (net.call_of (net.dot net.me (codes "T")) (net.next_exp (net.lit (net.integer (pos 3) false)) net.no_exps))
              (net.binary net_bin.Add (net.call_of (net.dot net.me (codes "T")) (net.next_exp (net.lit (net.integer (pos 3) false))
              net.no_exps)) (net.call_of (net.path ((codes "T") ∷ [])) (net.next_exp (net.lit (net.integer (pos 3) false)) net.no_exps))))
              ∷
              (net.assign (net.call_of (net.dot (net.dot net.me (codes "Child")) (codes "T")) (net.next_exp (net.lit (net.integer (pos
              3) false)) net.no_exps)) (net.lit (net.integer (pos 1) false))) ∷ []);
          close = close.EndSub;
        })) ∷
        (net.proc (record {
          head = (net.function net_visible.Public (codes "Self") ([]) (net_types.named ((codes "Node") ∷ [])));
          prologue = ([]);
          lines = (
              (net.assign (net.path ((codes "Self") ∷ [])) net.me) ∷ []);
          close = close.EndFunction;
        })) ∷ []);
  }) ∷ []);
  support = (record {
    name = (codes "UpgradeSupport");
    class = false;
    members = (
        (net.proc (record {
          head = (net.sub net_visible.Public (codes "PrintLine") ((record {
            passing = net_passing.Value;
            name
                = (codes "s");
            ty = net_types.str;
          }) ∷ []));
          prologue = ([]);
          lines = (
              (net.call (net.path ((codes "System") ∷ (codes "Console") ∷ (codes "WriteLine") ∷ [])) (net.next_exp (net.path ((codes
              "s") ∷ [])) net.no_exps)) ∷ []);
          close = close.EndSub;
        })) ∷
        (net.proc (record {
          head = (net.function net_visible.Public (codes "CurText") ((record {
            passing = net_passing.Value;
            name = (codes "d");
            ty = net_types.decimal;
          }) ∷ []) net_types.str);
          prologue = ([]);
          lines = (
              (net.assign (net.path ((codes "CurText") ∷ [])) (net.call_of (net.path ((codes "d") ∷ (codes "ToString") ∷ [])) (net.next_exp
              (net.lit (net.str (codes "0.####"))) (net.next_exp (net.path ((codes "System") ∷ (codes "Globalization") ∷ (codes "CultureInfo")
              ∷ (codes "InvariantCulture") ∷ [])) net.no_exps)))) ∷ []);
          close = close.EndFunction;
        })) ∷
        (net.proc (record {
          head = (net.function net_visible.Public (codes "PrintNum") ((record {
            passing = net_passing.Value;
            name = (codes "d");
            ty = net_types.decimal;
          }) ∷ []) net_types.str);
          prologue = ([]);
          lines = (
              (net.if_head (net.binary net_bin.Less (net.path ((codes "d") ∷ [])) (net.lit (net.decimal (pos 0))))) ∷
              (net.assign (net.path ((codes "PrintNum") ∷ [])) (net.binary net_bin.Concat (net.call_of (net.path ((codes "CurText")
              ∷ [])) (net.next_exp (net.path ((codes "d") ∷ [])) net.no_exps)) (net.lit (net.str (codes " "))))) ∷
              net.else_line ∷
              (net.assign (net.path ((codes "PrintNum") ∷ [])) (net.binary net_bin.Concat (net.binary net_bin.Concat (net.lit (net.str
              (codes " "))) (net.call_of (net.path ((codes "CurText") ∷ [])) (net.next_exp (net.path ((codes "d") ∷ [])) net.no_exps)))
              (net.lit (net.str (codes " "))))) ∷
              net.end_if ∷ []);
          close = close.EndFunction;
        })) ∷
        (net.proc (record {
          head = (net.function net_visible.Public (codes "At") ((record {
            passing = net_passing.Value;
            name
                = (codes "i");
            ty = net_types.integer;
          }) ∷ (record {
            passing = net_passing.Value;
            name = (codes "b");
            ty = net_types.integer;
          }) ∷ []) net_types.integer);
          prologue = (
              (net.local (record {
                name = (codes "d");
                ty = net_types.long;
                value = (Some (net.binary net_bin.Sub (net.cast cast.CLng
                    (net.path ((codes "i") ∷ []))) (net.cast cast.CLng (net.path ((codes "b") ∷ [])))));
              })) ∷ []);
          lines = (
              (net.if_head (net.binary net_bin.Or (net.binary net_bin.Less (net.path ((codes "d") ∷ [])) (net.lit (net.long (pos 0))))
              (net.binary net_bin.Greater (net.path ((codes "d") ∷ [])) (net.lit (net.long (pos 2147483647)))))) ∷
              (net.assign (net.path ((codes "At") ∷ [])) (net.unary net_un.Neg (net.lit (net.integer (pos 1) false)))) ∷
              net.else_line ∷
              (net.assign (net.path ((codes "At") ∷ [])) (net.cast cast.CInt (net.path ((codes "d") ∷ [])))) ∷
              net.end_if ∷ []);
          close = close.EndFunction;
        })) ∷
        (net.proc (record {
          head = (net.function net_visible.Public (codes "Top") ((record {
            passing = net_passing.Value;
            name
                = (codes "h");
            ty = net_types.integer;
          }) ∷ (record {
            passing = net_passing.Value;
            name = (codes "b");
            ty = net_types.integer;
          }) ∷ []) net_types.integer);
          prologue = ([]);
          lines = (
              (net.if_head (net.binary net_bin.Less (net.path ((codes "h") ∷ [])) (net.path ((codes "b") ∷ [])))) ∷
              (net.call (net.path ((codes "Raise") ∷ [])) (net.next_exp (net.lit (net.integer (pos 9) false)) net.no_exps)) ∷
              net.end_if ∷
              (net.assign (net.path ((codes "Top") ∷ [])) (net.binary net_bin.Sub (net.path ((codes "h") ∷ [])) (net.path ((codes "b")
              ∷ [])))) ∷ []);
          close = close.EndFunction;
        })) ∷
        (net.proc (record {
          head = (net.function net_visible.Public (codes "Hi") ((record {
            passing = net_passing.Value;
            name
                = (codes "a");
            ty = net_types.system_array;
          }) ∷ (record {
            passing = net_passing.Value;
            name = (codes "d");
            ty = net_types.integer;
          }) ∷ (record { passing = net_passing.Value; name = (codes "b"); ty = net_types.integer }) ∷ []) net_types.integer);
          prologue
              = ([]);
          lines = (
              (net.if_head (net.binary net_bin.Equal (net.path ((codes "a") ∷ (codes "Length") ∷ [])) (net.lit (net.integer (pos 0)
              false)))) ∷
              (net.call (net.path ((codes "Raise") ∷ [])) (net.next_exp (net.lit (net.integer (pos 9) false)) net.no_exps)) ∷
              net.end_if ∷
              (net.assign (net.path ((codes "Hi") ∷ [])) (net.binary net_bin.Add (net.call_of (net.path ((codes "a") ∷ (codes "GetUpperBound")
              ∷ [])) (net.next_exp (net.path ((codes "d") ∷ [])) net.no_exps)) (net.path ((codes "b") ∷ [])))) ∷ []);
          close = close.EndFunction;
        })) ∷
        (net.proc (record {
          head = (net.function net_visible.Public (codes "Lo") ((record {
            passing = net_passing.Value;
            name
                = (codes "a");
            ty = net_types.system_array;
          }) ∷ (record {
            passing = net_passing.Value;
            name = (codes "b");
            ty = net_types.integer;
          }) ∷ []) net_types.integer);
          prologue = ([]);
          lines = (
              (net.if_head (net.binary net_bin.Equal (net.path ((codes "a") ∷ (codes "Length") ∷ [])) (net.lit (net.integer (pos 0)
              false)))) ∷
              (net.call (net.path ((codes "Raise") ∷ [])) (net.next_exp (net.lit (net.integer (pos 9) false)) net.no_exps)) ∷
              net.end_if ∷
              (net.assign (net.path ((codes "Lo") ∷ [])) (net.path ((codes "b") ∷ []))) ∷ []);
          close = close.EndFunction;
        })) ∷
        (net.proc (record {
          head = (net.sub net_visible.Public (codes "Raise") ((record {
            passing = net_passing.Value;
            name =
                (codes "n");
            ty = net_types.integer;
          }) ∷ []));
          prologue = ([]);
          lines = (
              (net.call (net.dot (net.call_of (net.path ((codes "Microsoft") ∷ (codes "VisualBasic") ∷ (codes "Information") ∷ (codes
              "Err") ∷ [])) net.no_exps) (codes "Raise")) (net.next_exp (net.path ((codes "n") ∷ [])) net.no_exps)) ∷ []);
          close = close.EndSub;
        })) ∷
        (net.proc (record {
          head = (net.sub net_visible.Public (codes "PutInteger") ((record {
            passing = net_passing.Value;
            name
                = (codes "v");
            ty = net_types.integer;
          }) ∷ (record {
            passing = net_passing.Reference;
            name = (codes "t");
            ty = net_types.integer;
          }) ∷ []));
          prologue = ([]);
          lines = (
              (net.assign (net.path ((codes "t") ∷ [])) (net.path ((codes "v") ∷ []))) ∷ []);
          close = close.EndSub;
        })) ∷
        (net.proc (record {
          head = (net.function net_visible.Public (codes "New1") ([]) (net_types.named ((codes "Main1") ∷ (codes
              "Box") ∷ [])));
          prologue = (
              (net.local (record { name = (codes "r"); ty = (net_types.named ((codes "Main1") ∷ (codes "Box") ∷ [])); value = None }))
              ∷ []);
          lines = (
              (net.assign (net.path ((codes "r") ∷ (codes "T") ∷ [])) (net.new_array net_types.integer (net.next_exp (net.lit (net.integer
              (pos 2) false)) net.no_exps))) ∷
              (net.assign (net.path ((codes "r") ∷ (codes "F") ∷ [])) (net.new_array net_types.str (net.next_exp (net.lit (net.integer
              (negsuc 0) false)) net.no_exps))) ∷
              (net.assign (net.path ((codes "New1") ∷ [])) (net.path ((codes "r") ∷ []))) ∷ []);
          close = close.EndFunction;
        })) ∷
        (net.proc (record {
          head = (net.function net_visible.Public (codes "New2") ([]) (net_types.named ((codes "Main1") ∷ (codes
              "Shelf") ∷ [])));
          prologue = (
              (net.local (record {
                name = (codes "r");
                ty = (net_types.named ((codes "Main1") ∷ (codes "Shelf") ∷ []));
                value = None;
              })) ∷ []);
          lines = (
              (net.assign (net.path ((codes "r") ∷ (codes "B") ∷ [])) (net.call_of (net.path ((codes "New1") ∷ [])) net.no_exps)) ∷
              (net.assign (net.path ((codes "New2") ∷ [])) (net.path ((codes "r") ∷ []))) ∷ []);
          close = close.EndFunction;
        })) ∷ []);
  });
})

abbrev pub runnable : Runnable
runnable = runnable_of program quiet lows

said : ran runnable 1 2000 ≡ (
  line (codes " 5  7 x 2  9  1 ")
      ++ line (codes " 5  7  3 ")
      ++ line (codes " 18  1 ")
      ++ line (codes " 18  7 "),
  ended,
)
unfolding digits
said = refl

said_written : ran_written written 1 2000 ≡ (
  line (codes " 5  7 x 2  9  1 ")
      ++ line (codes " 5  7  3 ")
      ++ line (codes " 18  1 ")
      ++ line (codes " 18  7 "),
  ended,
)
unfolding digits
said_written = refl
