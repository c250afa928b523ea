-- Planned worlds may go to another thread: as all their parts may.
use denote.Builtin.{u32}
use denote.Param.Send.{IsSend, sendable}
use Rattle.std.proofs.Crossing.{crosses}
use Rattle.asl_model.proofs.machine.After.TheSendSync as AfterCrosses
use Rattle.asl_model.proofs.machine.Care.TheSendSync as CareCrosses
use Rattle.asl_model.proofs.machine.Catcher.TheSendSync as CatcherCrosses
use Rattle.asl_model.proofs.machine.Retrier.TheSendSync as RetrierCrosses
use Rattle.asl_model.proofs.machine.State.TheLaws.TheKnot as StateKnot
use Rattle.asl_model.specs.contracts.machine.Block as Block
use Rattle.asl_model.specs.contracts.machine.Machine as Machine
use Rattle.asl_model.specs.contracts.machine.TopRule as TopRule
use Rattle.asl_model.specs.contracts.shapes.ItemTemplate as ItemTemplate
use Rattle.asl_model.specs.contracts.shapes.MapShape as MapShape
use Rattle.asl_model.specs.contracts.shapes.PassShape as PassShape
use Rattle.asl_model.specs.contracts.shapes.PathShape as PathShape
use Rattle.asl_paths.proofs.path.Path.TheSendSync as PathCrosses
use Rattle.asl_paths.proofs.path.PathStep.TheSendSync as PathStepCrosses
use Rattle.asl_paths.proofs.template.Part.TheLaws.TheKnot as PartKnot
use Rattle.asl_paths.specs.contracts.template.Template as Template
use Rattle.asl_shape.specs.contracts.shape.Shape as Shape
use Rattle.checkpoint_store.proofs.key.Key.TheSendSync as KeyCrosses
use Rattle.checkpoint_store.specs.contracts.slot.Slot as Slot
use Rattle.checkpoint_store.specs.contracts.store.Store as Store
use Rattle.choice_rules.proofs.comparison.OpKind.TheSendSync as OpKindCrosses
use Rattle.choice_rules.proofs.comparison.Rel.TheSendSync as RelCrosses
use Rattle.choice_rules.proofs.pattern.Pattern.TheSendSync as PatternCrosses
use Rattle.choice_rules.proofs.pattern.Piece.TheSendSync as PieceCrosses
use Rattle.choice_rules.proofs.rule.Rule.TheLaws.TheKnot as RuleKnot
use Rattle.choice_rules.proofs.several.NonEmpty.TheSendSync as NonEmptyCrosses
use Rattle.continuation_gen.specs.contracts.compiled.Compiled as Compiled
use Rattle.fanin_bitmap.specs.contracts.bitmap.Bitmap as Bitmap
use Rattle.fn_table.specs.contracts.table.Table as Table
use Rattle.invoke_queue.proofs.numbers.Numbers.TheSendSync as NumbersCrosses
use Rattle.invoke_queue.proofs.states.States.TheSendSync as StatesCrosses
use Rattle.invoke_queue.specs.contracts.attempts.Attempts as Attempts
use Rattle.invoke_queue.specs.contracts.queue.Queue as Queue
use Rattle.place_name.proofs.kind.Kind.TheSendSync as KindCrosses
use Rattle.place_name.proofs.name.Name.TheSendSync as NameCrosses
use Rattle.place_name.proofs.place.Place.TheSendSync as PlaceCrosses
use Rattle.place_name.proofs.seg.Seg.TheSendSync as SegCrosses
use Rattle.place_name.proofs.trail.Trail.TheSendSync as TrailCrosses
use Rattle.sqlite_items.proofs.boxed.Boxed.TheSendSync as BoxedCrosses
use Rattle.unum_hub.specs.contracts.hub.Hub as Hub
use Rattle.unum_ir.proofs.ir.Func.TheSendSync as FuncCrosses
use Rattle.unum_ir.proofs.ir.NodeCare.TheSendSync as NodeCareCrosses
use Rattle.unum_ir.proofs.ir.NodeCatcher.TheSendSync as NodeCatcherCrosses
use Rattle.unum_ir.proofs.ir.Scope.TheSendSync as ScopeCrosses
use Rattle.unum_ir.specs.contracts.ir.Ir as Ir
use Rattle.unum_ir.specs.contracts.ir.Node as Node
use Rattle.unum_ir.specs.contracts.ir.NodeRule as NodeRule
use Rattle.unum_ir.specs.contracts.ir.Op as Op
use Rattle.unum_json.proofs.fields.Fields.TheSendSync as FieldsCrosses
use Rattle.unum_json.proofs.items.Items.TheSendSync as ItemsCrosses
use Rattle.unum_json.proofs.kept.Json.TheLaws.TheKnot as JsonKnot
use Rattle.unum_json.proofs.outcome.Fault.TheSendSync as FaultCrosses
use Rattle.unum_json.proofs.shared.Shared.TheSendSync as SharedCrosses
use Rattle.unum_json.proofs.text.Text.TheSendSync as TextCrosses
use Rattle.unum_json.specs.contracts.kept.Json as Json
use Rattle.unum_json.specs.contracts.outcome.Outcome as Outcome
use Rattle.unum_world.specs.contracts.opening.Opening as Opening
use Rattle.unum_world.specs.contracts.opening.Session as Session
use Rattle.unum_world.specs.contracts.planned.Planned as Planned
use Rattle.unum_world.specs.contracts.world.World as World
use Rattle.unum_world.specs.contracts.world_state.WorldState as WorldState
use Rattle.world_types.proofs.operation.Invocation.TheSendSync as InvocationCrosses
use Rattle.world_types.proofs.queue.InvState.TheSendSync as InvStateCrosses
use Rattle.world_types.specs.contracts.held.Kept as Kept
use Rattle.world_types.specs.contracts.phase.Phase as Phase
use Rattle.world_types.specs.contracts.queue.Attempt as Attempt
use Rattle.world_types.specs.contracts.queue.Entry as Entry
use Rattle.world_types.specs.contracts.stop.Stop as Stop

-- Texts, lists and JSON values.
ruleset texts = (JsonKnot.crosses, crosses, ItemsCrosses.the_send, ItemsCrosses.the_sync, FieldsCrosses.the_send, FieldsCrosses.the_sync, SharedCrosses.the_send, SharedCrosses.the_sync, TextCrosses.the_send, TextCrosses.the_sync, FaultCrosses.the_send, FaultCrosses.the_sync, sendable)

-- Names of places and objects.
ruleset names = (texts, KindCrosses.the_send, NameCrosses.the_send, PlaceCrosses.the_send, SegCrosses.the_send, TrailCrosses.the_send, KeyCrosses.the_send)

-- Parts of the queue.
ruleset numbers = (names, InvocationCrosses.the_send, InvStateCrosses.the_send, NumbersCrosses.the_send, StatesCrosses.the_send)

-- Paths, templates and rules.
ruleset rules = (texts, PathCrosses.the_send, PathStepCrosses.the_send, PartKnot.crosses, OpKindCrosses.the_send, RelCrosses.the_send, PatternCrosses.the_send, PieceCrosses.the_send, NonEmptyCrosses.the_send, RuleKnot.crosses, BoxedCrosses.the_send)

-- Parts of a state.
ruleset states = (rules, AfterCrosses.the_send, CareCrosses.the_send, CatcherCrosses.the_send, RetrierCrosses.the_send, StateKnot.crosses)

-- Parts of flat code.
ruleset nodes = (rules, RetrierCrosses.the_send, FuncCrosses.the_send, NodeCareCrosses.the_send, NodeCatcherCrosses.the_send, ScopeCrosses.the_send)

-- ---------------------------------------------------------------- values, and what objects, attempts and stops hold

json : IsSend Json.the_row
json = search texts depth 30 fits 100000

outcome : IsSend Outcome.the_row
outcome = search (json, texts) depth 30 fits 100000

outcome_field : IsSend (Outcome.the_field).row
outcome_field = search (json, texts) depth 30 fits 100000

kept_field : IsSend (Kept.the_field).row
kept_field = search (json, outcome_field, texts) depth 30 fits 100000

phase_field : IsSend (Phase.the_field).row
phase_field = search (json, outcome, kept_field, texts) depth 30 fits 100000

attempt : IsSend Attempt.the_row
attempt = search (phase_field, texts) depth 30 fits 100000

entry : IsSend Entry.the_row
entry = search (outcome_field, names) depth 30 fits 100000

stop : IsSend (Stop.the_row u32)
stop = search (json, outcome_field, texts) depth 30 fits 100000

-- ---------------------------------------------------------------- queue and store

attempts_field : IsSend (Attempts.the_field).row
attempts_field = search (attempt, numbers) depth 30 fits 100000

queue_field : IsSend (Queue.the_field).row
queue_field = search (attempts_field, numbers) depth 30 fits 100000

bitmap : IsSend Bitmap.the_row
bitmap = search texts depth 30 fits 100000

slot : IsSend Slot.the_row
slot = search (json, outcome_field, kept_field, bitmap, texts) depth 30 fits 100000

store_field : IsSend (Store.the_field).row
store_field = search (slot, names) depth 30 fits 100000

hub_field : IsSend (Hub.the_field).row
hub_field = search (store_field, queue_field, texts) depth 30 fits 100000

-- ---------------------------------------------------------------- machines

template : IsSend Template.the_row
template = search (json, rules) depth 30 fits 100000

template_field : IsSend (Template.the_field).row
template_field = search (json, rules) depth 30 fits 100000

shape_field : IsSend (Shape.the_field).row
shape_field = search (template, rules) depth 30 fits 100000

pass_shape_field : IsSend (PassShape.the_field).row
pass_shape_field = search (shape_field, rules) depth 30 fits 100000

path_shape_field : IsSend (PathShape.the_field).row
path_shape_field = search (shape_field, rules) depth 30 fits 100000

map_shape_field : IsSend (MapShape.the_field).row
map_shape_field = search (shape_field, rules) depth 30 fits 100000

item_template : IsSend ItemTemplate.the_row
item_template = search (template_field, rules) depth 30 fits 100000

item_template_field : IsSend (ItemTemplate.the_field).row
item_template_field = search (template_field, rules) depth 30 fits 100000

top_rule : IsSend TopRule.the_row
top_rule = search (json, rules) depth 30 fits 100000

block_field : IsSend (Block.the_field).row
block_field = search (json, pass_shape_field, path_shape_field, map_shape_field, shape_field, item_template_field, top_rule, states) depth 30 fits 100000

machine_field : IsSend (Machine.the_field).row
machine_field = search (block_field, texts) depth 30 fits 100000

-- ---------------------------------------------------------------- flat code

node_rule : IsSend NodeRule.the_row
node_rule = search (json, rules) depth 30 fits 100000

op_field : IsSend (Op.the_field).row
op_field = search (json, pass_shape_field, path_shape_field, map_shape_field, shape_field, item_template, node_rule, nodes) depth 30 fits 100000

node : IsSend Node.the_row
node = search (op_field, texts) depth 30 fits 100000

ir_field : IsSend (Ir.the_field).row
ir_field = search (node, nodes) depth 30 fits 100000

-- ---------------------------------------------------------------- worlds

compiled : IsSend Compiled.the_row
compiled = search (machine_field, ir_field, texts) depth 30 fits 100000

table_field : IsSend (Table.the_field).row
table_field = search (json, texts) depth 30 fits 100000

session : IsSend Session.the_row
session = search (json, texts) depth 30 fits 100000

opening_field : IsSend (Opening.the_field).row
opening_field = search (compiled, table_field, session, texts) depth 30 fits 100000

world_state_field : IsSend (WorldState.the_field).row
world_state_field = search (hub_field, entry, stop, numbers) depth 30 fits 100000

world_field : IsSend (World.the_field).row
world_field = search (opening_field, world_state_field, texts) depth 30 fits 100000

pub planned : IsSend Planned.the_row
planned = search (world_field, texts) depth 30 fits 100000
