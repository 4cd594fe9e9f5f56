pub use Rattle.buck_fleet_world.specs.World
pub use Rattle.buck_fleet_world.specs.Step
pub use Rattle.buck_fleet_world.specs.Kept
pub use Rattle.buck_fleet_world.specs.Refused
pub use Rattle.buck_fleet_world.specs.Run
pub use Rattle.buck_fleet_world.specs.Counts
pub use Rattle.buck_fleet_world.specs.Laws
