-- Threads may share a forest and a key, and send a key to another thread.
use denote.Param.Send.{IsSend, IsSync, sendable, recorded_sync, view_sync, struct_send, struct_sync}
use denote.Builtin.{u8}
use denote.Struct.Struct.{Struct}
use denote.Struct.Declared.{shape}
use Rattle.std.proofs.Crossing.{crosses, Vec-sync}
use Rattle.lms_tree.specs.contracts.band_tree.BandTree as band_tree
use Rattle.lms_hss.specs.contracts.levels.Levels as levels
use Rattle.lms_hss.specs.contracts.key.HssKey as key
use Rattle.lms_hss.specs.contracts.signed_tree.SignedTree as signed
use Rattle.lms_hss.specs.contracts.level_trees.LevelTrees as level_trees
use Rattle.lms_hss.specs.contracts.forest.Forest as forest
use Rattle.lms_hss.specs.contracts.forest.Forest.TheInside as inside

levels_are_shared : IsSync levels.the_row
levels_are_shared = search sendable depth 20

levels_are_sent : IsSend levels.the_row
levels_are_sent = search sendable depth 20

pub key_is_shared : IsSync (Struct (shape key.the_type))
key_is_shared =
    struct_sync (shape key.the_type) (levels_are_shared, (search sendable depth 20, (search sendable depth 20, tt)))

pub key_is_sent : IsSend (Struct (shape key.the_type))
key_is_sent =
    struct_send (shape key.the_type) (levels_are_sent, (search sendable depth 20, (search sendable depth 20, tt)))

tree_is_shared : IsSync band_tree.the_row
tree_is_shared = search (sendable, crosses) depth 20

signed_is_shared : IsSync (Struct (shape signed.the_type))
signed_is_shared = struct_sync (shape signed.the_type) (tree_is_shared, (Vec-sync u8 (search sendable depth 20), tt))

trees_are_shared : IsSync (Struct (shape level_trees.the_type))
trees_are_shared = struct_sync (shape level_trees.the_type)
    (search sendable depth 20, (search (signed_is_shared, sendable, crosses) depth 20, tt))

pub forest_is_shared : IsSync forest.the_row
forest_is_shared =
    let fields : IsSync (Struct (shape inside.the_type)) = struct_sync (shape inside.the_type) (
      key_is_shared,
      (
        search sendable depth 20,
        (
          search sendable depth 20,
          (
            search sendable depth 20,
            (
              search (trees_are_shared, sendable, crosses) depth 20,
              (trees_are_shared, (search (sendable, crosses) depth 20, tt)),
            ),
          ),
        ),
      ),
    ) in
    view_sync inside.the_row _ _ _ _
    (recorded_sync (Struct (shape inside.the_type)) inside.the_type.D inside.the_type.to inside.the_type.to_one fields)
