pub mod HeldParts
pub mod ContainerKinds
pub mod ContainerParts
mod MadeContainers
