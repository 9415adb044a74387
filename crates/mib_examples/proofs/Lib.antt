mod Derived
mod ComputedRuns
mod ComputedNumbers
mod ComputedTables
mod ComputedRegisters
mod ComputedPackets
mod ComputedTools
mod DerivedDesks
